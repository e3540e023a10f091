use Rattle.std.proofs.Common.{◌≡◌, true, false, refl, sym, ap, ◌∙◌}
use Rattle.std.specs.Prelude.{is_some}
use Rattle.lgm_store.proofs.KeyOrder.{IsKeyOrder}
use Rattle.lgm_store.proofs.SlotNumberLaws.{IsPut, put-added, found-held}
use Rattle.lgm_store.proofs.PackedSlotLaws.{insert-last, lookup-last}
use Rattle.lgm_store.proofs.slot_table.SlotTable.append.Given.{Over}
use Rattle.lgm_store.proofs.slot_table.SlotTable.append.Goals as goal
use Rattle.lgm_store.proofs.slot_table.SlotTable.append.Goals.{In-None}

pub unreachable-requires : goal.unreachable-requires
unreachable-requires g c =
    let order : IsKeyOrder g.K.Ord.cmp = record { total = g.met.K.Ord.total; same = g.met.K.Key.same } in
    let key = g.V.Keyed.key_of c.args.value in
    let held = found-held order g.V.Keyed.key_of c.self.inside.slots.slots c.self.inside.numbers.entries c.args.self.now key
    c.in-Some.field-0.0 c.self.invariant.own c.self.view_is (rw c.in-Some.is at c.in_ok-place.ensures.ok).own in
    let never : false ≡ true = ap is_some (sym (lookup-last g.K.Ord.cmp key c.args.self.now c.requires)) ∙ held in
    absurd cc

put : (g : Over) (c : In-None g) → IsPut {cmp = g.K.Ord.cmp} (record { total = g.met.K.Ord.total; same = g.met.K.Key.same }) g.V.Keyed.key_of c.place.new.slots.slots c.place.new.numbers.entries c.args.self.now (g.V.Keyed.key_of c.args.value) c.args.value
put g c =
    let order : IsKeyOrder g.K.Ord.cmp = record { total = g.met.K.Ord.total; same = g.met.K.Key.same } in
    put-added order g.V.Keyed.key_of c.self.inside.slots c.place.new.slots c.self.inside.numbers.entries c.place.new.numbers.entries
    c.args.self.now (g.V.Keyed.key_of c.args.value) c.args.value (rw c.in-None.is at c.in_ok-place.ensures.ok)
    c.self.invariant c.self.view_is refl

pub invariant_of-self-2 : goal.invariant_of-self-2
invariant_of-self-2 g c = (put g c).numbered

pub returns : goal.returns
returns g c = (put g c).view ∙ insert-last g.K.Ord.cmp (g.V.Keyed.key_of c.args.value) c.args.value c.args.self.now c.requires
