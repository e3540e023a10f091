use Rattle.std.proofs.Common.{◌-◌}
use Rattle.lgm_route.proofs.Chains.{AreBeside}
use Rattle.lgm_route.proofs.label.ids_first.Given as goal

abbrev pub invariant-loop-step : goal.invariant-loop-step
invariant-loop-step g l = AreBeside (g.V.RoutingGraph.graph l.view) l.labels l.label l.other l.here l.there (l.label.hops - l.step)
