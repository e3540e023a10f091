use Rattle.std.proofs.Common.{◌≡◌, ◌-◌, ◌^◌, take}
use Rattle.std.specs.Prelude.{min, sum_by}
use Rattle.lgm_odds.specs.Cut.{across}
use Rattle.lgm_odds.proofs.cut.Cut.all_across.Given as goal

-- what the first ones carry across together
abbrev pub invariant-loop-edge : goal.invariant-loop-edge
invariant-loop-edge l = l.room ≡ min (2 ^ 64 - 1) (sum_by (across l.self) (take l.edge-index l.edges))
