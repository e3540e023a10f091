use Rattle.lgm_payer.proofs.HistoryLaws.{learnt_is_reported}
use Rattle.lgm_payer.proofs.payer.Payer.learns_by_reports.Goals as goal

pub returns : goal.returns
returns c = learnt_is_reported
