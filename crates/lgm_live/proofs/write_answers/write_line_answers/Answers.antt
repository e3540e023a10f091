use Rattle.std.proofs.Common.{refl, ap, subst, ◌∙◌, get_or, arith}
use Rattle.std.proofs.lemmas.Result.{err_from_is_err_and}
use Rattle.lgm_script.specs.Output.{told_by, Tells, TellsPart}
use Rattle.lgm_script.proofs.WrittenTextLaws.{tells_nothing}
use Rattle.lgm_live.specs.declared.parsed_script.LineAnswer.TheVariants as line_answers
use Rattle.lgm_live.specs.inner.Telling.{place_passed}
use Rattle.lgm_live.proofs.SlotTexts.{no_text, place_more, text_at, text_here, one_more, stops}
use Rattle.lgm_live.proofs.write_answers.write_line_answers.Goals as goal

pub loop-line_answer-init : goal.loop-line_answer-init
loop-line_answer-init g c = record {
  number = refl;
  place = c.first-place.ensures;
  told = rw (no_text c.args.workers c.args.report.now c.args.line_answers.now) (tells_nothing (told_by g.W.Sink.seen c.args.output.now));
}

pub returns-in_err-write_line_answer : goal.returns-in_err-write_line_answer
returns-in_err-write_line_answer g c =
    let p = err_from_is_err_and c.from_residual.result c.from_residual.ensures.1 in
    let all = c.args.line_answers.now in
    let k = c.loop-line_answer.line_answer-index in
    let old = told_by g.W.Sink.seen c.args.output.now in
    let mid = told_by g.W.Sink.seen c.loop-line_answer.output in
    let new = told_by g.W.Sink.seen c.write_line_answer.new.output in
    let fault = c.in_err-write_line_answer.field-0.0 in
    let is =
    text_here c.args.workers c.args.report.now all k c.loop-line_answer.number c.loop-line_answer.place
    c.loop-line_answer.invariant.number c.loop-line_answer.invariant.place in
    rw (p.1, p.2)
    (stops c.args.workers c.args.report.now all k old mid new fault c.loop-line_answer-test.true c.loop-line_answer.invariant.told
    (subst (λ text. TellsPart mid new text fault) is c.in_err-write_line_answer.ensures))

pub loop-line_answer-preserved : goal.loop-line_answer-preserved
loop-line_answer-preserved g c =
    let all = c.args.line_answers.now in
    let k = c.loop-line_answer.line_answer-index in
    let old = told_by g.W.Sink.seen c.args.output.now in
    let mid = told_by g.W.Sink.seen c.loop-line_answer.output in
    let new = told_by g.W.Sink.seen c.write_line_answer.new.output in
    let told : Tells mid new (text_at c.args.workers c.args.report.now all k) =
    subst (Tells mid new) (text_here c.args.workers c.args.report.now all k c.loop-line_answer.number
    c.loop-line_answer.place c.loop-line_answer.invariant.number c.loop-line_answer.invariant.place)
    c.in_ok-write_line_answer.ensures in
    record {
      number = omega (arith, c.loop-line_answer.invariant.number);
      place =
          c.pass-place.ensures ∙ ap (λ place. place_passed place (get_or all k line_answers.Quiet)) c.loop-line_answer.invariant.place
          ∙ place_more all k c.loop-line_answer-test.true;
      told = one_more c.args.workers c.args.report.now all k old mid new c.loop-line_answer.invariant.told told;
    }
