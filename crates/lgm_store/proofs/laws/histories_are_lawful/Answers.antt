use Rattle.lgm_store.proofs.Lawful.{fold-lawful}
use Rattle.lgm_store.proofs.laws.histories_are_lawful.Goals as goal

pub returns : goal.returns
returns c = fold-lawful
