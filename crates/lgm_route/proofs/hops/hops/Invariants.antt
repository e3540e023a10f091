use Rattle.lgm_route.proofs.HopLaws.{AreHops}
use Rattle.lgm_route.proofs.hops.hops.Given as goal

abbrev pub invariant-loop-i : goal.invariant-loop-i
invariant-loop-i g l = AreHops (g.V.RoutingGraph.graph l.view) l.request l.walk l.i l.owed l.due l.hops.items
