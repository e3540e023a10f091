use Rattle.lgm_route.proofs.NarrowedEdgeLaws.{narrowing_never_helps}
use Rattle.lgm_route.proofs.laws.narrowing_never_helps.Goals as goal

pub returns : goal.returns
returns c = narrowing_never_helps
