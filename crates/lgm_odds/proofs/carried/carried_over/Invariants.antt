use Rattle.std.proofs.Common.{◌≡◌, ◌-◌, ◌^◌, take}
use Rattle.std.specs.Prelude.{min, sum_by}
use Rattle.lgm_odds.specs.Carried.{over}
use Rattle.lgm_odds.proofs.carried.carried_over.Given as goal

-- what the first hops carry
abbrev pub invariant-loop-hop : goal.invariant-loop-hop
invariant-loop-hop l = l.carried ≡ min (2 ^ 64 - 1) (sum_by (over l.scid l.from) (take l.hop-index l.busy))
