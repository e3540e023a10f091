use Rattle.std.proofs.lemmas.Result.{err_from_is_err_and}
use Rattle.lgm_script.proofs.WrittenTextLaws.{tells_none}
use Rattle.lgm_answers.proofs.route.send_found.Goals as goal

pub returns-in_err-payloads-in-Ok : goal.returns-in_err-payloads-in-Ok
returns-in_err-payloads-in-Ok g c =
    let p = err_from_is_err_and c.from_residual.result c.from_residual.ensures.1 in
    rw (p.1, p.2) (tells_none _ _)
