use Rattle.std.proofs.Common.{arith}
use Rattle.lgm_route.proofs.Rests.{no_spent}
use Rattle.lgm_route.proofs.penalties.NoPenaltiesPenalties.add.Goals as goal

pub returns : goal.returns
returns c = omega (arith, no_spent c.requires.0 c.requires.1, c.requires.3)
