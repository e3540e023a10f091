use Rattle.std.proofs.Common.{rules}
use Rattle.lgm_save.specs.Saved.{opening}
use Rattle.lgm_save.proofs.reader.opening.Goals as goal

pub returns : goal.returns
unfolding opening
returns c = search rules
