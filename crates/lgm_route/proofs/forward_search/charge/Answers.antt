use Rattle.std.proofs.Common.{[], refl, arith}
use Rattle.lgm_route.proofs.forward_search.charge.Goals as goal

pub add-requires : goal.add-requires
add-requires g c = (0, [], omega arith, refl)
