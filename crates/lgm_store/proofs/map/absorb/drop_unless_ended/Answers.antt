use Rattle.std.proofs.Common.{◌≡◌, ℕ, true, List, [], ◌∷◌, refl, sym, ◌∙◌}
use Rattle.std.specs.Prelude.{filter, is_some}
use Rattle.std.specs.Map.{values_of}
use Rattle.std.specs.BTreeMap.{is_at}
use Rattle.lgm_wire.specs.declared.point.Point.{Point}
use Rattle.lgm_check.specs.declared.row.NodeRow.{NodeRow}
use Rattle.lgm_store.specs.inner.ChannelsByNode.{entry_of, stays_beside}
use Rattle.lgm_store.specs.Keys.{point_cmp, point_of}
use Rattle.lgm_store.proofs.ListLaws.{filter-same}
use Rattle.lgm_store.proofs.Ordered.{IsKeyed-remove}
use Rattle.lgm_store.proofs.Lists.{values-no_node}
use Rattle.lgm_store.proofs.map.absorb.drop_unless_ended.Goals as goal

-- all stay if the index has the node
all_stay : (ends : List (Point × List ℕ)) (node : Point) → is_some (entry_of ends node) ≡ true
    → (rows : List NodeRow) → rows ≡ filter (stays_beside ends node) rows
all_stay ends node here [] = refl
all_stay ends node here (row ∷ rows) = rw (here, ← all_stay ends node here rows) refl

pub returns-then-not-contains-clause-keyed : goal.returns-then-not-contains-clause-keyed
returns-then-not-contains-clause-keyed c =
    rw c.discard.ensures.left (IsKeyed-remove point_cmp point_of (is_at (point_cmp c.args.node.now)) c.args.nodes.now c.requires.keyed)

pub returns-then-not-contains-clause-left : goal.returns-then-not-contains-clause-left
returns-then-not-contains-clause-left c =
    let gone = sym c.contains.ensures ∙ c.if-not-contains.true in
    values-no_node c.args.nodes.now c.discard.new.self c.args.node.now c.discard.ensures.left c.requires.keyed c.requires.ascend
    ∙ filter-same _ (stays_beside c.args.ends.now c.args.node.now) (λ row. rw gone refl) (values_of c.args.nodes.now)

pub returns-else-not-contains-clause-left : goal.returns-else-not-contains-clause-left
returns-else-not-contains-clause-left c =
    all_stay c.args.ends.now c.args.node.now (sym c.contains.ensures ∙ c.if-not-contains.false) (values_of c.args.nodes.now)
