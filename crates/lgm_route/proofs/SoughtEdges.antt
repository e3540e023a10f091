-- Edges of a graph that are sought, by the nodes that they lead to.
use Rattle.std.proofs.Common.{◌≡◌, ℕ, ◌<◌, true, false, length, subst}
use Rattle.std.specs.Prelude.{Contains}
use Rattle.lgm_graph.specs.declared.edge.Edge.{Edge}
use Rattle.lgm_graph.specs.Edges.{PointEdge}
use Rattle.lgm_graph.specs.Graph.{Graph, AreListed, edge_between, edges, edges_into, point_edges}
use Rattle.lgm_route.specs.declared.sought.Sought.{Sought}
use Rattle.lgm_route.specs.Reasons.{is_sought, NoneIsSought, SomeIsSought}
use Rattle.lgm_route.specs.inner.Seeking.{NoneIsInto}
use Rattle.lgm_route.proofs.WalkOrderLaws.{contains_map, contained_map}

module _ (graph : Graph) (listed : AreListed graph) (sought : Sought) where
  -- an edge into a node is one of the graph
  pub one_sought : (number : ℕ) (edge : Edge) → Contains (edges_into graph number) edge
      → is_sought sought (edge_between graph.points edge) ≡ true → SomeIsSought sought (point_edges graph)
  one_sought number edge there is = (
    edge_between graph.points edge,
    contains_map (edge_between graph.points) (edges graph) edge (listed.into number edge there).1,
    is,
  )

  -- if none into any node is sought, none is
  pub none_sought : ((number : ℕ) → number < length graph.points → NoneIsInto graph sought number) → NoneIsSought sought (point_edges graph)
  none_sought none edge there =
      let found = contained_map (edge_between graph.points) (edges graph) edge there.0 there.1 there.2 in
      let is = listed.each found.0 found.1 in
      subst (λ (e : PointEdge). is_sought sought e ≡ false) found.2 (none found.0.to is.to found.0 is.there)
