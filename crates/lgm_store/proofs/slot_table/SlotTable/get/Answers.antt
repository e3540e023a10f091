use Rattle.std.proofs.Common.{sym}
use Rattle.lgm_store.proofs.KeyOrder.{IsKeyOrder}
use Rattle.lgm_store.proofs.SlotNumberLaws.{found-stored, found-none, has-slot}
use Rattle.lgm_store.proofs.slot_table.SlotTable.get.Goals as goal

pub returns-in_err-number : goal.returns-in_err-number
returns-in_err-number g c =
    let order : IsKeyOrder g.K.Ord.cmp = record { total = g.met.K.Ord.total; same = g.met.K.Key.same } in
    rw c.from_residual.ensures
    (sym (found-none order g.V.Keyed.key_of c.self.inside.slots.slots c.self.inside.numbers.entries c.args.self.now c.args.key.now
    c.self.invariant.own c.self.view_is (sym c.in_err-number.ensures)))

pub index-requires : goal.index-requires
index-requires g c =
    let order : IsKeyOrder g.K.Ord.cmp = record { total = g.met.K.Ord.total; same = g.met.K.Key.same } in
    has-slot order g.V.Keyed.key_of c.self.inside.slots.slots c.self.inside.numbers.entries c.args.key.now c.in_ok-number.number
    c.self.invariant.own (sym c.in_ok-number.ensures)

pub returns : goal.returns
returns g c =
    let order : IsKeyOrder g.K.Ord.cmp = record { total = g.met.K.Ord.total; same = g.met.K.Key.same } in
    sym (found-stored order g.V.Keyed.key_of c.self.inside.slots.slots c.self.inside.numbers.entries c.args.self.now c.args.key.now
    c.in_ok-number.number c.index.result.now c.self.invariant.own c.self.view_is
    (sym c.in_ok-number.ensures) c.index.ensures)
