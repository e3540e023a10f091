use Rattle.lgm_sync.proofs.CoverLaws.{replied, reaches}
use Rattle.lgm_sync.proofs.laws.covered_is_replied.Goals as goal

pub returns-clause-replied : goal.returns-clause-replied
returns-clause-replied c = replied

pub returns-clause-reaches : goal.returns-clause-reaches
returns-clause-reaches c = reaches
