use Rattle.std.proofs.Common.{arith}
use Rattle.lgm_check.proofs.AcceptedLaws.{is_accepted, is_only}
use Rattle.lgm_check.proofs.validation.precheck.Goals as goal

pub returns-clause-accepted : goal.returns-clause-accepted
returns-clause-accepted c =
    is_accepted _ c.args.chain.now c.args.bytes.now c.args.evidence.now (λ made. made) c.check.result
    (λ i. omega (arith, c.type_inv.bytes i)) c.check.ensures

pub returns-clause-only : goal.returns-clause-only
returns-clause-only c made is = is_only _ c.args.chain.now c.args.bytes.now c.args.evidence.now c.check.result made c.check.ensures is
