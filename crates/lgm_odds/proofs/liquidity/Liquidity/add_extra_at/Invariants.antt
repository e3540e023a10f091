use Rattle.std.proofs.Common.{◌≡◌, ◌++◌, take}
use Rattle.std.specs.Prelude.{flat_map, option_to_list}
use Rattle.lgm_odds.specs.Cut.{capacities_of, extra_at}
use Rattle.lgm_odds.proofs.liquidity.Liquidity.add_extra_at.Given as goal

-- those of the first ones were added
abbrev pub invariant-loop-edge : goal.invariant-loop-edge
invariant-loop-edge l =
    l.edges.items ≡ l.initial.edges.items
    ++ flat_map (λ edge. option_to_list (extra_at (capacities_of l.self) l.inward l.node edge)) (take l.edge-index l.self.extra.now)
