use Rattle.lgm_query.proofs.CoverLaws.{CoverRange-asked}
use Rattle.lgm_query.proofs.laws.replies_cover_range.Goals as goal

pub returns : goal.returns
returns c = CoverRange-asked
