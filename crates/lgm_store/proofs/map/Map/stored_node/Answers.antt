use Rattle.std.proofs.Common.{◌≡◌, List, Option, Some, None, ◌∙◌, ap}
use Rattle.std.specs.Map.{lookup, values_of}
use Rattle.std.specs.BTreeMap.{is_at}
use Rattle.lgm_wire.specs.declared.point.Point.{Point}
use Rattle.lgm_check.specs.declared.row.NodeRow.{NodeRow}
use Rattle.lgm_store.specs.Keys.{IsKeyed, point_cmp, point_of}
use Rattle.lgm_store.specs.Rows.{node_of}
use Rattle.lgm_store.proofs.Lists.{lookup-node}
use Rattle.lgm_store.proofs.map.Opened.{opened}
use Rattle.lgm_store.proofs.map.Map.stored_node.Goals as goal

-- what the table has is what the map has
seen : (entries : List (Point × NodeRow)) (nodes : List NodeRow) (node : Point) (row : Option NodeRow)
    → row ≡ lookup (is_at (point_cmp node)) entries → IsKeyed point_of entries → values_of entries ≡ nodes → row ≡ node_of nodes node
seen entries nodes node row is keyed nodes_are = is ∙ lookup-node entries node keyed ∙ ap (λ (rows : List NodeRow). node_of rows node) nodes_are

pub returns-in_err-row : goal.returns-in_err-row
returns-in_err-row c =
    let parts = opened c.deref.ensures c.self.invariant c.self.view_is in
    rw c.from_residual.ensures
    (seen c.deref.result.now.nodes c.args.self.now.nodes c.args.node.now None c.in_err-row.ensures
    parts.kept.rows.nodes_keyed (ap (λ rows. rows.nodes) parts.seen))

pub returns : goal.returns
returns c =
    let parts = opened c.deref.ensures c.self.invariant c.self.view_is in
    rw c.get-2.ensures
    (seen c.deref.result.now.nodes c.args.self.now.nodes c.args.node.now (Some c.in_ok-row.row.now) c.in_ok-row.ensures
    parts.kept.rows.nodes_keyed (ap (λ rows. rows.nodes) parts.seen))
