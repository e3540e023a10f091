use Rattle.std.proofs.Common.{ℕ, List, ap, ◌∙◌}
use Rattle.std.specs.Map.{values_of}
use Rattle.std.specs.BTreeMap.Range.{range_contains, entries_between}
use Rattle.std.specs.Ordering.{nat_cmp}
use Rattle.lgm_store.specs.inner.ChannelTable.{id_in}
use Rattle.lgm_store.specs.declared.channel_info.ChannelInfo.{ChannelInfo}
use Rattle.lgm_store.specs.inner.Slots.{entries_in}
use Rattle.lgm_store.proofs.KeyOrder.{by_id}
use Rattle.lgm_store.proofs.Slotted.{filter-slots, own-filter}
use Rattle.lgm_store.proofs.channel_table.SlotTable+Scid+ChannelInfo.range.Goals as goal

pub new-requires : goal.new-requires
new-requires c =
    rw (c.range.ensures.between tt) (own-filter by_id id_in c.self.inside.slots.slots
    (range_contains nat_cmp c.args.start c.args.end) c.self.inside.numbers.entries c.self.invariant.own)

pub returns : goal.returns
returns c =
    c.new.ensures ∙ ap (λ (es : List (ℕ × ℕ)). values_of (entries_in c.self.inside.slots.slots es)) (c.range.ensures.between tt)
    ∙ ap values_of (filter-slots by_id id_in c.self.inside.slots.slots (range_contains nat_cmp c.args.start c.args.end)
    c.self.inside.numbers.entries c.self.invariant.own)
    ∙ ap (λ (es : List (ℕ × ChannelInfo)). values_of (entries_between nat_cmp c.args.start c.args.end es)) c.self.view_is
