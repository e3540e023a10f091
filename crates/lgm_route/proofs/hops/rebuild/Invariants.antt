use Rattle.std.proofs.Common.{◌-◌}
use Rattle.lgm_route.proofs.Chains.{IsOnTheWay}
use Rattle.lgm_route.proofs.hops.rebuild.Given as goal

abbrev pub invariant-loop-step : goal.invariant-loop-step
invariant-loop-step g l = IsOnTheWay (g.V.RoutingGraph.graph l.view) l.labels l.found l.here (l.found.hops - l.step) l.walk.items
