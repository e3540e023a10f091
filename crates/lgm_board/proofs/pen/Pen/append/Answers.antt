use Rattle.std.proofs.Common.{drop, arith}
use Rattle.lgm_board.proofs.Boards.{appends}
use Rattle.lgm_board.proofs.pen.Pen.append.Goals as goal

pub invariant_of-self : goal.invariant_of-self
invariant_of-self c =
    let w = c.self.inside.writer in
    let w' = c.absorb.new.writer in
    let inv = c.self.invariant in
    let a =
    appends c.self.inside.noted w.desk.shown.value.told (drop w.behind w.log.items)
    (drop w'.behind w'.log.items) c.args.op c.self.inside.appended c.in-Ok.ensures.appended inv.1 inv.2 in
    (inv.0, rw c.absorb.ensures.desk a.0, rw c.absorb.ensures.desk a.1, omega (arith, inv.3, c.if-self-eq-MAX_OPERATIONS.false))
