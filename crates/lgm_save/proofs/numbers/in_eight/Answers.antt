use Rattle.std.proofs.Common.{rules}
use Rattle.lgm_save.specs.Numbers.{in_eight}
use Rattle.lgm_save.proofs.numbers.in_eight.Goals as goal

pub returns : goal.returns
unfolding in_eight
returns c = search rules
