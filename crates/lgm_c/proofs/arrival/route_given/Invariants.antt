use Rattle.std.proofs.Common.{◌≡◌, take}
use Rattle.lgm_c.specs.Arrivals.{hops_given}
use Rattle.lgm_c.proofs.arrival.route_given.Given as goal

-- the first hops were made
abbrev pub invariant-loop-hop : goal.invariant-loop-hop
invariant-loop-hop l = l.given.items ≡ hops_given (take l.hop-index l.hops)
