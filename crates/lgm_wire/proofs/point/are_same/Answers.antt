use Rattle.std.proofs.Common.{arith}
use Rattle.lgm_wire.proofs.PointLaws.{first_and_last}
use Rattle.lgm_wire.proofs.point.are_same.Goals as goal

pub returns : goal.returns
returns c =
    rw (c.eq.ensures, c.in-Some-Some.ensures.cases.same, c.in-Some-Some.ensures'.cases.same)
    (first_and_last 32 c.args.first.now c.args.second.now (omega arith) (omega arith))
