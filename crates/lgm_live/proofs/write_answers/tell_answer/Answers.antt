use Rattle.std.proofs.Common.{◌∙◌, codes}
use Rattle.std.proofs.lemmas.Result.{err_from_is_err_and}
use Rattle.lgm_script.specs.Output.{told_by, Tells, TellsPart}
use Rattle.lgm_script.proofs.WrittenTextLaws.{tells_none, tells_part_more, written_behind}
use Rattle.lgm_live.specs.Text.{at_line}
use Rattle.lgm_live.proofs.SlotTexts.{version_line}
use Rattle.lgm_live.proofs.write_answers.tell_answer.Goals as goal

pub returns-in_err-word : goal.returns-in_err-word
returns-in_err-word g c =
    let p = err_from_is_err_and c.from_residual.result c.from_residual.ensures.1 in
    rw (p.1, p.2) (tells_none _ _)

pub returns-in_err-send : goal.returns-in_err-send
returns-in_err-send g c =
    let p = err_from_is_err_and c.from_residual-in_err-send.result c.from_residual-in_err-send.ensures.1 in
    let is = version_line c.args.number c.args.answer.now.version c.as_str.result.now (c.as_str.ensures.value ∙ c.in_ok-word.ensures.ok) in
    let line : TellsPart (told_by g.W.Sink.seen c.args.output.now) (told_by g.W.Sink.seen c.send.new.self)
    (at_line c.args.number c.args.answer.now.version (codes "same")) c.in_err-send.field-0.0 =
    rw (← is) c.in_err-send.ensures in
    rw (p.1, p.2) (tells_part_more _ _ _ _ _ line)

pub returns : goal.returns
returns g c =
    let is = version_line c.args.number c.args.answer.now.version c.as_str.result.now (c.as_str.ensures.value ∙ c.in_ok-word.ensures.ok) in
    let line : Tells (told_by g.W.Sink.seen c.args.output.now) (told_by g.W.Sink.seen c.send.new.self)
    (at_line c.args.number c.args.answer.now.version (codes "same")) =
    rw (← is) c.in_ok-send.ensures in
    written_behind c.send_found.result _ _ _ _ _ line c.send_found.ensures
