use Rattle.std.proofs.Common.{◌≡◌, ◌-◌, ◌^◌, take}
use Rattle.std.specs.Prelude.{min, sum_by}
use Rattle.lgm_odds.specs.Cut.{capacities_of, across_at}
use Rattle.lgm_odds.proofs.cut.Cut.room.Given as goal

-- what the edges of the first nodes carry across together
abbrev pub invariant-loop-node : goal.invariant-loop-node
invariant-loop-node l =
    l.room ≡ min (2 ^ 64 - 1) (sum_by (across_at (capacities_of l.liquidity) l.self) (take l.node-index l.self.nodes))
