use Rattle.std.proofs.lemmas.Result.{err_from_is_err_and}
use Rattle.lgm_script.proofs.WrittenTextLaws.{tells_none}
use Rattle.lgm_run.proofs.answer_group.answer_alone.Goals as goal

pub returns-in_err-command-clause-written : goal.returns-in_err-command-clause-written
returns-in_err-command-clause-written g c =
    let p = err_from_is_err_and c.from_residual.result c.from_residual.ensures.1 in
    rw (p.1, p.2) (tells_none _ _)
