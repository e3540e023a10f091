use Rattle.std.proofs.Common.{refl}
use Rattle.lgm_payer_state.specs.States.{estimates_opening}
use Rattle.lgm_payer_state.proofs.learnt.opening.Goals as goal

pub returns : goal.returns
unfolding estimates_opening
returns c = refl
