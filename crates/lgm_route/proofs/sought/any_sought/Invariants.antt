use Rattle.std.proofs.Common.{ℕ, ◌<◌}
use Rattle.lgm_route.specs.inner.Seeking.{NoneIsInto}
use Rattle.lgm_route.proofs.sought.any_sought.Given as goal

-- no edge into the first nodes is sought
abbrev pub invariant-loop-number : goal.invariant-loop-number
invariant-loop-number g l = (k : ℕ) → k < l.number → NoneIsInto (g.V.RoutingGraph.graph l.graph) l.sought k
