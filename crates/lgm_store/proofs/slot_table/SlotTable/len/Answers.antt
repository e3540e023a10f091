use Rattle.std.proofs.Common.{length, sym, ap, ◌∙◌}
use Rattle.lgm_store.proofs.KeyOrder.{IsKeyOrder}
use Rattle.lgm_store.proofs.Slotted.{length-slots}
use Rattle.lgm_store.proofs.slot_table.SlotTable.len.Goals as goal

pub returns : goal.returns
returns g c =
    let order : IsKeyOrder g.K.Ord.cmp = record { total = g.met.K.Ord.total; same = g.met.K.Key.same } in
    c.len.ensures.len ∙ sym (length-slots order g.V.Keyed.key_of c.self.inside.slots.slots c.self.inside.numbers.entries
    c.self.invariant.own) ∙ ap length c.self.view_is
