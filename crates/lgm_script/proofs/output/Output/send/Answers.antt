use Rattle.std.proofs.lemmas.Result.{err_from_is_err_and}
use Rattle.lgm_script.proofs.WrittenTextLaws.{tells_same}
use Rattle.lgm_script.proofs.output.Output.send.Goals as goal

pub returns-in_err-append_line : goal.returns-in_err-append_line
returns-in_err-append_line g c =
    let p = err_from_is_err_and c.from_residual.result c.from_residual.ensures.1 in
    rw (p.1, p.2) (tells_same _ _ _ _ _ c.in_err-append_line.ensures.err)
