use Rattle.std.proofs.Common.{◌∷◌, refl, ap, ◌∙◌, rules}
use Rattle.std.specs.List.Sorted.{IsStrictlySortedBy}
use Rattle.std.specs.Map.{keys_of}
use Rattle.lgm_store.specs.inner.Slots.{slot_at, entries_in, HaveOwn}
use Rattle.lgm_store.proofs.KeyOrder.{IsKeyOrder}
use Rattle.lgm_store.proofs.Slotted.{in_slot}
use Rattle.lgm_store.proofs.SlotNumberLaws.{ascend-slots}
use Rattle.lgm_store.proofs.PackedSlotLaws.{highest, taken_over, next_copied}
use Rattle.lgm_store.proofs.slot_table.SlotTable.packed.Goals as goal

pub loop-number-init : goal.loop-number-init
loop-number-init g c = record {
  whole =
      rw c.new-copy.ensures (ap (entries_in c.self.inside.slots.slots) c.into_iter-number-iterator.ensures.into_iter_gives.0 ∙ c.self.view_is);
  own = rw c.into_iter-number-iterator.ensures.into_iter_gives.0 c.self.invariant.own;
}

pub index-requires : goal.index-requires
index-requires g c =
    let order : IsKeyOrder g.K.Ord.cmp = record { total = g.met.K.Ord.total; same = g.met.K.Key.same } in
    let own : HaveOwn g.V.Keyed.key_of c.self.inside.slots.slots ((c.in-Some.field-0-0.now, c.in-Some.number.now) ∷ c.next.new.self) =
    rw c.in-Some.ensures.steps at c.loop-number.invariant.own in
    let here = in_slot order g.V.Keyed.key_of (slot_at c.self.inside.slots.slots c.in-Some.number.now) c.in-Some.field-0-0.now own.0 in
    rw here.1 refl

pub append-requires : goal.append-requires
append-requires g c =
    let order : IsKeyOrder g.K.Ord.cmp = record { total = g.met.K.Ord.total; same = g.met.K.Key.same } in
    let ascend : IsStrictlySortedBy g.K.Ord.cmp (keys_of c.args.self.now) =
    rw c.self.view_is at (ascend-slots order g.V.Keyed.key_of c.self.inside.slots.slots c.self.inside.numbers.entries c.self.invariant.own c.self.invariant.ascend) in
    let whole =
    next_copied g.V.Keyed.key_of c.self.inside.slots.slots c.in-Some.field-0-0.now c.in-Some.number.now c.index.result.now
    c.in_ok-copied.field-0 c.loop-number.number-iterator c.next.new.self c.loop-number.copy c.args.self.now
    c.in-Some.ensures.steps c.loop-number.invariant.own c.index.ensures c.in_ok-copied.ensures
    c.loop-number.invariant.whole in
    highest g.K.Ord.cmp order.total c.loop-number.copy (g.V.Keyed.key_of c.in_ok-copied.field-0, c.in_ok-copied.field-0)
    (entries_in c.self.inside.slots.slots c.next.new.self) (rw whole ascend)

pub loop-number-preserved : goal.loop-number-preserved
loop-number-preserved g c =
    let whole =
    next_copied g.V.Keyed.key_of c.self.inside.slots.slots c.in-Some.field-0-0.now c.in-Some.number.now c.index.result.now
    c.in_ok-copied.field-0 c.loop-number.number-iterator c.next.new.self c.loop-number.copy c.args.self.now
    c.in-Some.ensures.steps c.loop-number.invariant.own c.index.ensures c.in_ok-copied.ensures
    c.loop-number.invariant.whole in
    record {
      whole =
          taken_over c.loop-number.copy c.append.new.self (g.V.Keyed.key_of c.in_ok-copied.field-0, c.in_ok-copied.field-0)
          (entries_in c.self.inside.slots.slots c.next.new.self) c.args.self.now whole c.in_ok-append.ensures;
      own = (rw c.in-Some.ensures.steps at c.loop-number.invariant.own).1;
    }

pub returns : goal.returns
returns g c = search rules
