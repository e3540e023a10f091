use Rattle.std.proofs.Common.{◌≡◌, take}
use Rattle.lgm_script.specs.Output.{told_by, Tells}
use Rattle.lgm_live.specs.inner.Telling.{place_behind, slots_before}
use Rattle.lgm_live.proofs.write_answers.write_line_answers.Given as goal

abbrev pub invariant-loop-line_answer : goal.invariant-loop-line_answer
invariant-loop-line_answer g l = record {
  number : l.number ≡ l.line_answer-index;
  place : l.place ≡ place_behind (take l.line_answer-index l.line_answers);
  told : Tells (told_by g.W.Sink.seen l.fn.output) (told_by g.W.Sink.seen l.output)
      (slots_before l.workers l.report l.line_answers l.line_answer-index);
}
