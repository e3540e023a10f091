use Rattle.lgm_payer.proofs.RestoringLaws.{can_restore}
use Rattle.lgm_payer.proofs.payment.Payment.can_be_restored.Goals as goal

pub returns : goal.returns
returns c = rw (← c.self.view_is) (can_restore _ c.self.invariant.0 c.self.invariant.1)
