use Rattle.std.proofs.Common.{rules}
use Rattle.lgm_save.specs.Numbers.{in_two}
use Rattle.lgm_save.proofs.numbers.in_two.Goals as goal

pub returns : goal.returns
unfolding in_two
returns c = search rules
