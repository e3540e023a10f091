use Rattle.std.proofs.Common.{◌≡◌, ◌≤◌, ◌*◌, take}
use Rattle.std.specs.Prelude.{sum_by}
use Rattle.lgm_graph.specs.Estimates.{estimate_of}
use Rattle.lgm_odds.specs.RouteOdds.{hop_odds}
use Rattle.lgm_odds.proofs.odds.sum_of_odds.Given as goal

-- the sum of those of the first hops
abbrev pub invariant-loop-hop : goal.invariant-loop-hop
invariant-loop-hop l =
    (l.sum ≡ sum_by (hop_odds l.map l.extra l.limits (estimate_of l.estimates)) (take l.hop-index l.hops))
    × (l.sum ≤ l.hop-index * 100000000)
