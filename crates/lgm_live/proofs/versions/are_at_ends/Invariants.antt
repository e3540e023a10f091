use Rattle.std.proofs.Common.{take}
use Rattle.std.specs.Prelude.{All}
use Rattle.lgm_live.specs.Answers.{IsAtEnd}
use Rattle.lgm_live.proofs.versions.are_at_ends.Given as goal

abbrev pub invariant-loop-answer : goal.invariant-loop-answer
invariant-loop-answer l = All (IsAtEnd l.ends) (take l.answer-index l.answers)
