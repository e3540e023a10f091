use Rattle.std.proofs.Common.{ap, get_or, refl, subst, ◌∙◌}
use Rattle.lgm_live.specs.declared.parsed_script.LineAnswer.TheVariants as line_answers
use Rattle.lgm_live.specs.inner.Telling.{IsFreshThere, place_passed}
use Rattle.lgm_live.proofs.SlotTexts.{place_more, one_more_fresh}
use Rattle.lgm_live.proofs.freshness.are_fresh.Goals as goal

pub loop-line_answer-preserved : goal.loop-line_answer-preserved
loop-line_answer-preserved c =
    let all = c.args.line_answers.now in
    let k = c.loop-line_answer.line_answer-index in
    let place = c.loop-line_answer.invariant.place in
    record {
      place = c.pass-place.ensures ∙ ap (λ p. place_passed p (get_or all k line_answers.Quiet)) place ∙ place_more all k c.loop-line_answer-test.true;
      fresh = one_more_fresh c.args.workers c.args.report.now all k c.loop-line_answer.invariant.fresh
          (subst (λ p. IsFreshThere c.args.workers c.args.report.now p (get_or all k line_answers.Quiet)) place
          (c.if-not-is_fresh.ensures refl));
    }
