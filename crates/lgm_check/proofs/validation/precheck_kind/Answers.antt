use Rattle.std.proofs.Common.{arith}
use Rattle.lgm_check.specs.CheckedKind.{row_of}
use Rattle.lgm_check.proofs.AcceptedLaws.{is_accepted}
use Rattle.lgm_check.proofs.validation.precheck_kind.Goals as goal

pub returns-clause-accepted : goal.returns-clause-accepted
returns-clause-accepted c =
    is_accepted _ c.args.chain.now c.args.bytes.now c.args.evidence.now (λ kind. row_of kind c.args.bytes.now) c.check_kind.result
    (λ i. omega (arith, c.type_inv.bytes i)) c.check_kind.ensures.exact
