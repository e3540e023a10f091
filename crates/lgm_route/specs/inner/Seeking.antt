-- Edges that are sought, node by node.
use Rattle.std.specs.Prelude.{◌≡◌, ℕ, false, Contains}
use Rattle.lgm_graph.specs.declared.edge.Edge.{Edge}
use Rattle.lgm_graph.specs.Graph.{Graph, edge_between, edges_into}
use Rattle.lgm_route.specs.declared.sought.Sought.{Sought}
use Rattle.lgm_route.specs.Reasons.{is_sought}

-- no edge into the node of a number is sought
abbrev pub NoneIsInto : Graph → Sought → ℕ → Type 0
NoneIsInto graph sought number =
    (edge : Edge) → Contains (edges_into graph number) edge → is_sought sought (edge_between graph.points edge) ≡ false
