use Rattle.lgm_route.proofs.PreferredLaws.{nothing}
use Rattle.lgm_route.proofs.laws.nothing_preferred.Goals as goal

pub returns : goal.returns
returns c = nothing
