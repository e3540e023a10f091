use Rattle.std.proofs.Common.{◌≡◌, None, sym, ap, ◌∙◌}
use Rattle.std.specs.Map.{lookup, remove_entry}
use Rattle.std.specs.BTreeMap.{is_at}
use Rattle.lgm_store.specs.inner.Slots.{entries_in, IsNumbered}
use Rattle.lgm_store.proofs.KeyOrder.{IsKeyOrder}
use Rattle.lgm_store.proofs.ChannelMapLaws.{remove-none}
use Rattle.lgm_store.proofs.Slotted.{removed}
use Rattle.lgm_store.proofs.SlotNumberLaws.{numbered-remove, found-stored, found-none, has-slot, ascend-slots}
use Rattle.lgm_store.proofs.slot_table.SlotTable.remove.Given.{Over}
use Rattle.lgm_store.proofs.slot_table.SlotTable.remove.Goals as goal
use Rattle.lgm_store.proofs.slot_table.SlotTable.remove.Goals.{After-from_residual, After-remove-2}

none : (g : Over) (c : After-from_residual g) → lookup (is_at (g.K.Ord.cmp c.args.key.now)) c.args.self.now ≡ None
none g c =
    let order : IsKeyOrder g.K.Ord.cmp = record { total = g.met.K.Ord.total; same = g.met.K.Key.same } in
    found-none order g.V.Keyed.key_of c.self.inside.slots.slots c.self.inside.numbers.entries c.args.self.now c.args.key.now
    c.self.invariant.own c.self.view_is (sym c.in_err-number.ensures.value)

pub returns-in_err-number-clause-value : goal.returns-in_err-number-clause-value
returns-in_err-number-clause-value g c = c.from_residual.ensures ∙ sym (none g c)

pub returns-in_err-number-clause-left : goal.returns-in_err-number-clause-left
returns-in_err-number-clause-left g c =
    ap (entries_in c.self.inside.slots.slots) c.in_err-number.ensures.unchanged ∙ c.self.view_is
    ∙ sym (remove-none (is_at (g.K.Ord.cmp c.args.key.now)) c.args.self.now (none g c))

pub returns-in_err-number-clause-ascend : goal.returns-in_err-number-clause-ascend
returns-in_err-number-clause-ascend g c =
    let order : IsKeyOrder g.K.Ord.cmp = record { total = g.met.K.Ord.total; same = g.met.K.Key.same } in
    rw c.in_err-number.ensures.unchanged (ascend-slots order g.V.Keyed.key_of c.self.inside.slots.slots c.self.inside.numbers.entries
    c.self.invariant.own c.self.invariant.ascend)

pub remove-requires-2 : goal.remove-requires-2
remove-requires-2 g c =
    let order : IsKeyOrder g.K.Ord.cmp = record { total = g.met.K.Ord.total; same = g.met.K.Key.same } in
    has-slot order g.V.Keyed.key_of c.self.inside.slots.slots c.self.inside.numbers.entries c.args.key.now c.in_ok-number.number
    c.self.invariant.own (sym c.in_ok-number.ensures.value)

numbered : (g : Over) (c : After-remove-2 g) → IsNumbered g.K.Ord.cmp g.V.Keyed.key_of c.remove-2.new.self.slots c.remove.new.self.entries
numbered g c =
    let order : IsKeyOrder g.K.Ord.cmp = record { total = g.met.K.Ord.total; same = g.met.K.Key.same } in
    numbered-remove order g.V.Keyed.key_of c.self.inside.slots c.remove-2.new.self c.self.inside.numbers.entries
    c.remove.new.self.entries c.args.key.now c.in_ok-number.number c.remove-2.ensures.updates
    (sym c.in_ok-number.ensures.value) c.remove.ensures.entries c.remove.ensures.ordered c.remove.ensures.updates.0 c.self.invariant

pub invariant_of-self-2 : goal.invariant_of-self-2
invariant_of-self-2 g c = numbered g c

pub returns-clause-value : goal.returns-clause-value
returns-clause-value g c =
    let order : IsKeyOrder g.K.Ord.cmp = record { total = g.met.K.Ord.total; same = g.met.K.Key.same } in
    sym (found-stored order g.V.Keyed.key_of c.self.inside.slots.slots c.self.inside.numbers.entries c.args.self.now c.args.key.now
    c.in_ok-number.number c.remove-2.result c.self.invariant.own c.self.view_is
    (sym c.in_ok-number.ensures.value) c.remove-2.ensures.value)

pub returns-clause-left : goal.returns-clause-left
returns-clause-left g c =
    let order : IsKeyOrder g.K.Ord.cmp = record { total = g.met.K.Ord.total; same = g.met.K.Key.same } in
    ap (entries_in c.remove-2.new.self.slots) c.remove.ensures.entries
    ∙ removed order g.V.Keyed.key_of c.self.inside.slots.slots c.remove-2.new.self.slots c.in_ok-number.number
    c.remove-2.ensures.updates.others c.args.key.now c.self.inside.numbers.entries
    (sym c.in_ok-number.ensures.value) c.self.invariant.own c.self.invariant.ascend
    ∙ ap (remove_entry (is_at (g.K.Ord.cmp c.args.key.now))) c.self.view_is

pub returns-clause-ascend : goal.returns-clause-ascend
returns-clause-ascend g c =
    let order : IsKeyOrder g.K.Ord.cmp = record { total = g.met.K.Ord.total; same = g.met.K.Key.same } in
    ascend-slots order g.V.Keyed.key_of c.remove-2.new.self.slots c.remove.new.self.entries (numbered g c).own (numbered g c).ascend
