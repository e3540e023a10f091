use Rattle.lgm_save.proofs.RecordLaws.{ban_found}
use Rattle.lgm_save.proofs.reader.ban_in.Goals as goal

pub returns-clause-some : goal.returns-clause-some
returns-clause-some c =
    ban_found c.args.bytes.now c.in_ok-point.point.now c.in_ok-point.rest.now
    c.in_ok-point.ensures.cases.0 c.in_ok-point.ensures.cases.1 c.in_ok-point.ensures.cases.2
