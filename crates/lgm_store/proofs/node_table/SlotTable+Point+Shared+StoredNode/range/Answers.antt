use Rattle.std.proofs.Common.{ℕ, List, ap, ◌∙◌}
use Rattle.std.specs.Map.{values_of}
use Rattle.std.specs.BTreeMap.Range.{range_contains, entries_between}
use Rattle.lgm_wire.specs.declared.point.Point.{Point}
use Rattle.lgm_check.specs.declared.row.NodeRow.{NodeRow}
use Rattle.lgm_store.specs.Keys.{point_cmp, point_of}
use Rattle.lgm_store.specs.inner.Slots.{entries_in}
use Rattle.lgm_store.proofs.KeyOrder.{by_node}
use Rattle.lgm_store.proofs.Slotted.{filter-slots, own-filter}
use Rattle.lgm_store.proofs.node_table.SlotTable+Point+Shared+StoredNode.range.Goals as goal

pub new-requires : goal.new-requires
new-requires c =
    rw (c.range.ensures.between tt) (own-filter by_node point_of c.self.inside.slots.slots
    (range_contains point_cmp c.args.start c.args.end) c.self.inside.numbers.entries c.self.invariant.own)

pub returns : goal.returns
returns c =
    c.new.ensures ∙ ap (λ (es : List (Point × ℕ)). values_of (entries_in c.self.inside.slots.slots es)) (c.range.ensures.between tt)
    ∙ ap values_of (filter-slots by_node point_of c.self.inside.slots.slots (range_contains point_cmp c.args.start c.args.end)
    c.self.inside.numbers.entries c.self.invariant.own)
    ∙ ap (λ (es : List (Point × NodeRow)). values_of (entries_between point_cmp c.args.start c.args.end es)) c.self.view_is
