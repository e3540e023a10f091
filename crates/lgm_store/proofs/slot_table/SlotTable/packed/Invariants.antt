use Rattle.std.proofs.Common.{◌≡◌, ◌++◌}
use Rattle.lgm_store.specs.inner.Slots.{entries_in, HaveOwn}
use Rattle.lgm_store.proofs.slot_table.SlotTable.packed.Given as goal

-- what was copied and what is left make the whole, and each slot that is left has its own value
abbrev pub invariant-loop-number : goal.invariant-loop-number
invariant-loop-number g l = record {
  whole : l.copy ++ entries_in l.self-inside.slots.slots l.number-iterator ≡ l.fn.self;
  own : HaveOwn g.V.Keyed.key_of l.self-inside.slots.slots l.number-iterator;
}
