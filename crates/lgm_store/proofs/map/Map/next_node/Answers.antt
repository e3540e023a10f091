use Rattle.std.proofs.Common.{◌≡◌, List, [], ◌∷◌, Option, Some, None, refl, sym, ap, ◌∙◌}
use Rattle.std.specs.Option.{option_copied}
use Rattle.std.specs.Map.{values_of}
use Rattle.std.specs.declared.ops.Bound.{Bound}
use Rattle.std.specs.declared.ops.Bound.TheVariants.{Unbounded}
use Rattle.std.specs.BTreeMap.Range.{entries_between}
use Rattle.lgm_wire.specs.declared.point.Point.{Point}
use Rattle.lgm_check.specs.declared.row.NodeRow.{NodeRow}
use Rattle.lgm_store.specs.Keys.{IsKeyed, point_cmp, point_of}
use Rattle.lgm_store.specs.Reading.{next_node_of}
use Rattle.lgm_store.specs.inner.Start.{start_after}
use Rattle.lgm_store.proofs.IterationLaws.{first_value, next_node-between}
use Rattle.lgm_store.proofs.map.Opened.{opened}
use Rattle.lgm_store.proofs.map.Map.next_node.Goals as goal

abbrev some_row : NodeRow → Option NodeRow
some_row row = Some row

abbrev first_row : List NodeRow → Option NodeRow
first_row [] = None
first_row (row ∷ rows) = Some row

first_of : (es : List (Point × NodeRow)) → first_row (values_of es) ≡ first_value es
first_of [] = refl
first_of (e ∷ es) = refl

next_is : (nodes : List NodeRow) (start : Bound Point) (entries : List (Point × NodeRow)) (after : Option Point) (rows : List NodeRow)
    → nodes ≡ values_of (entries_between point_cmp start Unbounded entries) → start ≡ start_after after
    → IsKeyed point_of entries → values_of entries ≡ rows → first_row nodes ≡ next_node_of rows after
next_is nodes start entries after rows is start_is keyed rows_are =
    ap first_row (is ∙ ap (λ s. values_of (entries_between point_cmp s Unbounded entries)) start_is)
    ∙ first_of (entries_between point_cmp (start_after after) Unbounded entries)
    ∙ sym (next_node-between entries after keyed) ∙ ap (λ rs. next_node_of rs after) rows_are

pub returns-in_err-stored : goal.returns-in_err-stored
returns-in_err-stored c =
    let parts = opened c.deref.ensures c.self.invariant c.self.view_is in
    c.from_residual.ensures ∙ ap first_row (sym c.in_err-stored.ensures.steps.0)
    ∙ next_is c.range-nodes.result c.start_after.result c.deref.result.now.nodes (option_copied c.args.after)
    c.args.self.now.nodes c.range-nodes.ensures (c.start_after.ensures ∙ ap start_after c.copied.ensures)
    parts.kept.rows.nodes_keyed (ap (λ rows. rows.nodes) parts.seen)

pub returns : goal.returns
returns c =
    let parts = opened c.deref.ensures c.self.invariant c.self.view_is in
    ap some_row c.row.ensures ∙ ap first_row (sym c.in_ok-stored.ensures.steps)
    ∙ next_is c.range-nodes.result c.start_after.result c.deref.result.now.nodes (option_copied c.args.after)
    c.args.self.now.nodes c.range-nodes.ensures (c.start_after.ensures ∙ ap start_after c.copied.ensures)
    parts.kept.rows.nodes_keyed (ap (λ rows. rows.nodes) parts.seen)
