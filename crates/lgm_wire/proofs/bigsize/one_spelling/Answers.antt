use Rattle.lgm_wire.proofs.BigSizeClauses.{same_front}
use Rattle.lgm_wire.proofs.bigsize.one_spelling.Goals as goal

pub returns : goal.returns
returns c = same_front
