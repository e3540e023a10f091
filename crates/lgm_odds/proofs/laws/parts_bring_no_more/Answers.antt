use Rattle.lgm_odds.proofs.CutLaws.{bring_no_more}
use Rattle.lgm_odds.proofs.laws.parts_bring_no_more.Goals as goal

pub returns : goal.returns
returns c = bring_no_more
