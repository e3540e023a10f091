use Rattle.std.proofs.Common.{arith, length, ◌∙◌, refl, sym, subst, ap}
use Rattle.std.specs.Prelude.{IfOk}
use Rattle.std.specs.List.{AllZip}
use Rattle.std.proofs.lemmas.List.{drop_all}
use Rattle.std.proofs.lemmas.Result.{err_from_is_err_and, IfOk-at_ok}
use Rattle.std.proofs.lemmas.Slice.Zip.{AllZip-long}
use Rattle.lgm_script.proofs.WrittenTextLaws.{tells_none, onward_first}
use Rattle.lgm_run.specs.inner.Questions.{IsAnswerTo}
use Rattle.lgm_run.proofs.TurnLaws.{turn_at, all_done}
use Rattle.lgm_run.proofs.questions.answer_questions.Goals as goal

pub loop-answer-init : goal.loop-answer-init
loop-answer-init g c =
    let lines = c.args.lines.now in
    let same = c.as_slice-answer-items.ensures.value in
    let long =
    AllZip-long (λ request answer. IfOk answer (IsAnswerTo c.args.context.now.chain c.args.committed.now.known
    c.args.committed.now.rows request)) lines c.in_ok-all.all.items c.in_ok-all.ensures in
    record {
      number = omega arith;
      many = omega (arith, ap length same, long);
      left = record {
        asked = lines;
        known =
            subst (AllZip (λ request answer. IfOk answer (IsAnswerTo c.args.context.now.chain
            c.args.committed.now.known c.args.committed.now.rows request)) lines) (sym same)
            c.in_ok-all.ensures;
        leads = refl;
        told = onward_first _ _ _ refl;
      };
    }

pub returns-in_err-all-clause-written : goal.returns-in_err-all-clause-written
returns-in_err-all-clause-written g c =
    let p = err_from_is_err_and c.from_residual.result c.from_residual.ensures.1 in
    rw (p.1, p.2) (tells_none _ _)

pub loop-answer-preserved : goal.loop-answer-preserved
loop-answer-preserved g c =
    let inv = c.loop-answer.invariant in
    let turn =
    turn_at inv.left c.as_slice-answer-items.result.now c.loop-answer.answer-index c.answer-item.result refl
    c.loop-answer-test.true c.answer-item.is in
    let answer = IfOk-at_ok _ c.in-Ok.is turn.known in
    record {
      number = omega (arith, inv.number);
      many = inv.many;
      left = turn.goes_on _ _ _ (c.in_ok-send.ensures.filters ∙ answer.filters c.loop-answer.filters)
          (answer.text c.loop-answer.number) (rw c.map.ensures at c.in_ok-send.ensures.written);
    }

pub returns-in_default-clause-written : goal.returns-in_default-clause-written
returns-in_default-clause-written g c =
    let turn =
    turn_at c.loop-answer.invariant.left c.as_slice-answer-items.result.now c.loop-answer.answer-index
    c.answer-item.result refl c.loop-answer-test.true c.answer-item.is in
    turn.stops _ _ _ refl (tells_none _ _)

pub returns-in_err-send-clause-written : goal.returns-in_err-send-clause-written
returns-in_err-send-clause-written g c =
    let turn =
    turn_at c.loop-answer.invariant.left c.as_slice-answer-items.result.now c.loop-answer.answer-index
    c.answer-item.result refl c.loop-answer-test.true c.answer-item.is in
    let answer = IfOk-at_ok _ c.in-Ok.is turn.known in
    let p = err_from_is_err_and c.from_residual-in_err-send.result c.from_residual-in_err-send.ensures.1 in
    rw (p.1, p.2) (turn.stops _ _ _ (answer.text c.loop-answer.number) (rw c.map.ensures at c.in_err-send.ensures.written))

pub returns-clause-filters : goal.returns-clause-filters
returns-clause-filters g c =
    (all_done c.loop-answer.invariant.left (drop_all c.loop-answer.answer-index
    c.as_slice-answer-items.result.now c.loop-answer-test.false)).0

pub returns-clause-written : goal.returns-clause-written
returns-clause-written g c =
    (all_done c.loop-answer.invariant.left (drop_all c.loop-answer.answer-index
    c.as_slice-answer-items.result.now c.loop-answer-test.false)).1
