use Rattle.std.proofs.Common.{◌≡◌, ℕ, ◌<◌, false, get_or}
use Rattle.lgm_graph.specs.declared.edge.Edge.{Edge}
use Rattle.lgm_graph.specs.Graph.{edge_between}
use Rattle.lgm_route.specs.Reasons.{is_sought}
use Rattle.lgm_route.proofs.sought.any_into.Given as goal

-- none of the first edges is sought
abbrev pub invariant-loop-edge : goal.invariant-loop-edge
invariant-loop-edge g l =
    (k : ℕ) (edge : Edge) → k < l.edge-index → get_or l.edges k edge ≡ edge
    → is_sought l.sought (edge_between (g.V.RoutingGraph.graph l.graph).points edge) ≡ false
