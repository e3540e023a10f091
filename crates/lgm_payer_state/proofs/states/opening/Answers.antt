use Rattle.std.proofs.Common.{refl}
use Rattle.lgm_payer_state.specs.States.{opening}
use Rattle.lgm_payer_state.proofs.states.opening.Goals as goal

pub returns : goal.returns
unfolding opening
returns c = refl
