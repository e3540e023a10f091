use Rattle.lgm_store.proofs.AscendingRowLaws.{fold-ascends}
use Rattle.lgm_store.proofs.laws.rows_ascend.Goals as goal

pub returns : goal.returns
returns c = fold-ascends
