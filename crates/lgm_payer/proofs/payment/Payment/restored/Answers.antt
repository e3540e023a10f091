use Rattle.std.proofs.Common.{sym, ◌∙◌}
use Rattle.lgm_payer.proofs.RestoringLaws.{sound_keeps}
use Rattle.lgm_payer.proofs.payment.Payment.restored.Goals as goal

pub invariant_of-result : goal.invariant_of-result
invariant_of-result c =
    let e = sym c.is_sound.ensures ∙ c.if-not-is_sound.false in
    sound_keeps c.args.invoice c.args.bounds c.args.parts.items (rw c.deref.ensures.value at e)
