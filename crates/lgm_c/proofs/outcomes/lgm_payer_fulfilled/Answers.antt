use Rattle.std.proofs.Common.{◌≡◌, Some}
use Rattle.lgm_c.specs.Paying.{Fulfils}
use Rattle.lgm_c.proofs.Told.{told_over}
use Rattle.lgm_c.proofs.outcomes.lgm_payer_fulfilled.Goals as goal

pub returns-in-Some : goal.returns-in-Some
returns-in-Some c =
    let before : c.args.payer.now.value ≡ Some c.deref_mut.result.now = cc (c.in-Some.ensures.taken, c.deref_mut.ensures.value) in
    told_over (Fulfils c.args.payment) _ _ _ _ _ _ c.status-answer.ensures before c.put.ensures c.fulfil.ensures
