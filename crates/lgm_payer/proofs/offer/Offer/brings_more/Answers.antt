use Rattle.std.proofs.Common.{◌≤◌, ◌+◌, arith}
use Rattle.std.proofs.Math.Nat.{mul-le-mul_left}
use Rattle.lgm_payer.proofs.offer.Offer.brings_more.Goals as goal

pub overflow_mul-own : goal.overflow_mul-own
overflow_mul-own c =
    let low : 1000000 + c.args.other.now.odds ≤ 4296967295 = omega arith in
    omega (arith, mul-le-mul_left c.args.self.now.amount low)

pub overflow_mul-others : goal.overflow_mul-others
overflow_mul-others c =
    let low : 1000000 + c.args.self.now.odds ≤ 4296967295 = omega arith in
    omega (arith, mul-le-mul_left c.args.other.now.amount low)
