use Rattle.lgm_check.proofs.AcceptedLaws.{accepted, only}
use Rattle.lgm_check.proofs.validation.accepted_exactly.Goals as goal

pub returns-clause-accepted : goal.returns-clause-accepted
returns-clause-accepted c = accepted

pub returns-clause-only : goal.returns-clause-only
returns-clause-only c = only
