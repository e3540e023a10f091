use Rattle.std.proofs.Common.{take}
use Rattle.std.specs.Prelude.{fold}
use Rattle.std.specs.Option.{unwrap_or}
use Rattle.lgm_odds.specs.Lessons.{AreTaught, lowered_by}
use Rattle.lgm_odds.proofs.lesson.beside.Given as goal

-- each was lowered by the first hops
abbrev pub invariant-loop-hop : goal.invariant-loop-hop
invariant-loop-hop l =
    AreTaught (λ scid from estimate. fold (lowered_by scid from) estimate (take l.hop-index l.busy)) l.learnt (unwrap_or l.beside l.learnt)
