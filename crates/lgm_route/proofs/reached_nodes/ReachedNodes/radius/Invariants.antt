use Rattle.lgm_route.proofs.ReachedPlaces.{IsLeastOf}
use Rattle.lgm_route.proofs.reached_nodes.ReachedNodes.radius.Given as goal

abbrev pub invariant-loop-node : goal.invariant-loop-node
invariant-loop-node l = IsLeastOf l.node-items l.node-index l.least
