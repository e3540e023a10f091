use Rattle.std.proofs.Common.{◌≡◌, take}
use Rattle.lgm_live.specs.inner.Telling.{place_behind, AreFreshThere}
use Rattle.lgm_live.proofs.freshness.are_fresh.Given as goal

abbrev pub invariant-loop-line_answer : goal.invariant-loop-line_answer
invariant-loop-line_answer l = record {
  place : l.place ≡ place_behind (take l.line_answer-index l.line_answers);
  fresh : AreFreshThere l.workers l.report l.line_answers l.line_answer-index;
}
