use Rattle.std.proofs.Common.{arith}
use Rattle.std.proofs.lemmas.Grind.{common_steps}
use Rattle.lgm_save.specs.Checksum.{sums_of}
use Rattle.lgm_save.proofs.checksum.Sums.of.Goals as goal

pub returns : goal.returns
unfolding sums_of
returns c = grind (arith, common_steps)
