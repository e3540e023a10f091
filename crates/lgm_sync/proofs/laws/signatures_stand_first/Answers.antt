use Rattle.lgm_sync.proofs.SignedLaws.{signed}
use Rattle.lgm_sync.proofs.laws.signatures_stand_first.Goals as goal

pub returns : goal.returns
returns c = signed
