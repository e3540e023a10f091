use Rattle.std.proofs.Common.{arith}
use Rattle.lgm_save.proofs.NumberLaws.{eight_cut}
use Rattle.lgm_save.proofs.numbers.eight_in.Goals as goal

pub returns-clause-some : goal.returns-clause-some
returns-clause-some c =
    eight_cut c.args.bytes.now c.in_ok-digits.digits.now c.in_ok-digits.rest.now c.from_be_bytes.result
    (λ i. omega (arith, c.type_inv.bytes i)) c.in_ok-digits.ensures.cases.0 c.in_ok-digits.ensures.cases.1
    c.in_ok-digits.ensures.cases.2 c.from_be_bytes.ensures
