use Rattle.std.proofs.Common.{take}
use Rattle.lgm_odds.specs.Lessons.{AreTaught}
use Rattle.lgm_payer.specs.Learning.{learnt_arrived}
use Rattle.lgm_payer.proofs.learning.learn_arrived.Given as goal

-- each was taught by the first parts
abbrev pub invariant-loop-part : goal.invariant-loop-part
invariant-loop-part l = AreTaught (learnt_arrived l.payer l.hints (take l.part-index l.parts)) l.initial.estimates l.estimates
