use Rattle.std.proofs.Common.{◌≡◌, ◌+◌, length, drop}
use Rattle.std.specs.Prelude.{IfOk}
use Rattle.lgm_script.specs.Output.{told_by}
use Rattle.lgm_run.specs.inner.Questions.{filters_after, filters_behind, question_text, questions_text, IsAnswerTo}
use Rattle.lgm_run.proofs.TurnLaws.{AreLeft}
use Rattle.lgm_run.proofs.questions.answer_questions.Given as goal

abbrev pub invariant-loop-answer : goal.invariant-loop-answer
invariant-loop-answer g l = record {
  number : l.number ≡ l.first + l.answer-index;
  many : length l.answer-items ≡ length l.lines;
  left : AreLeft (filters_after l.context.chain)
      (λ n filters request. question_text l.context.chain l.committed.known l.committed.rows n request)
      (λ request answer. IfOk answer (IsAnswerTo l.context.chain l.committed.known l.committed.rows request))
      (filters_behind l.context.chain l.fn.filters l.lines)
      (told_by g.W.Sink.seen l.fn.output)
      (questions_text l.context.chain l.committed.known l.committed.rows l.first l.fn.filters l.lines)
      (drop l.answer-index l.answer-items) l.number l.filters (told_by g.W.Sink.seen l.output);
}
