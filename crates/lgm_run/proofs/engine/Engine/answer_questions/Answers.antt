use Rattle.std.proofs.lemmas.Result.{err_from_is_err_and}
use Rattle.lgm_script.proofs.WrittenTextLaws.{tells_none}
use Rattle.lgm_run.proofs.engine.Engine.answer_questions.Goals as goal

pub returns-in_err-reach_mark-clause-written : goal.returns-in_err-reach_mark-clause-written
returns-in_err-reach_mark-clause-written g c =
    let p = err_from_is_err_and c.from_residual.result c.from_residual.ensures.1 in
    rw (p.1, p.2) (tells_none _ _)

pub returns-in_err-make_view_at_mark-clause-written : goal.returns-in_err-make_view_at_mark-clause-written
returns-in_err-make_view_at_mark-clause-written g c =
    let made = c.from_residual-in_err-make_view_at_mark in
    let p = err_from_is_err_and made.result made.ensures.1 in
    rw (p.1, p.2) (tells_none _ _)
