use Rattle.std.proofs.Common.{◌≡◌, ◌++◌, take}
use Rattle.std.specs.Prelude.{flat_map, option_to_list}
use Rattle.lgm_odds.specs.Cut.{capacities_of, edge_by}
use Rattle.lgm_odds.proofs.liquidity.Liquidity.add_edges_by.Given as goal

-- those of the first ids were added
abbrev pub invariant-loop-id : goal.invariant-loop-id
invariant-loop-id l =
    l.edges.items ≡ l.initial.edges.items
    ++ flat_map (λ id. option_to_list (edge_by (capacities_of l.self) l.inward l.node id)) (take l.id-index l.ids)
