use Rattle.std.proofs.Common.{take}
use Rattle.lgm_odds.specs.Lessons.{AreTaught}
use Rattle.lgm_payer.specs.Learning.{taught_all}
use Rattle.lgm_payer.proofs.learning.teach_all.Given as goal

-- each was taught by the first hops
abbrev pub invariant-loop-hop : goal.invariant-loop-hop
invariant-loop-hop l = AreTaught (taught_all l.lesson l.payer l.hints (take l.hop-index l.hops)) l.initial.estimates l.estimates
