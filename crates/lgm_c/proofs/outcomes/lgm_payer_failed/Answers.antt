use Rattle.std.proofs.Common.{◌≡◌, Some, subst}
use Rattle.lgm_payer.specs.declared.failure.Ending.TheVariants as endings
use Rattle.lgm_payer.specs.declared.failure.Failure.{Failure}
use Rattle.lgm_c.specs.Paying.{failure_given, Ends}
use Rattle.lgm_c.specs.Status.{status_of}
use Rattle.lgm_c.proofs.Told.{told_over}
use Rattle.lgm_c.proofs.outcomes.lgm_payer_failed.Goals as goal

pub returns-in-Some : goal.returns-in-Some
returns-in-Some c =
    let before : c.args.payer.now.value ≡ Some c.deref_mut.result.now = cc (c.in-Some.ensures.taken, c.deref_mut.ensures.value) in
    let failure = failure_given c.args.place c.args.code c.args.is_renewed in
    told_over (Ends c.args.payment c.args.part (endings.Failed failure)) _ _ _ _ _ _ c.status-answer.ensures before c.put.ensures
    (subst (λ (f : Failure). Ends c.args.payment c.args.part (endings.Failed f) (status_of c.fail.result) (Some c.deref_mut.result.now)
    (Some c.fail.new.held)) c.failure_given-failure.ensures c.fail.ensures)
