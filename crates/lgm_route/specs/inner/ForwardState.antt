-- A forward search from the payer as one value, and its invariant.
use Rattle.std.specs.Prelude.{◌≡◌, ℕ, ◌<◌, List, length, Bool}
use Rattle.lgm_graph.specs.Graph.{Graph, edges, edges_leaving, AreListed}
use Rattle.lgm_route.specs.declared.bounds.Measure.{Measure}
use Rattle.lgm_route.specs.inner.Numbered.{Ask}
use Rattle.lgm_route.specs.inner.Searching.{number_at, edge_at}
use Rattle.lgm_route.specs.inner.Reaching.{Table, fees_in, closed_in}
use Rattle.lgm_route.specs.inner.Bounding.{IsSpread, IsNear}

-- the edges and the request, what is measured, the fees to each node, and which nodes are closed
pub record ForwardState : Type 0 where
  pub graph : Graph
  pub request : Ask
  pub measure : Measure
  pub dist : List ℕ
  pub closed : List Bool

abbrev pub forward_state : Graph → Ask → Measure → Table → ForwardState
forward_state graph request measure reached = record {
  graph = graph;
  request = request;
  measure = measure;
  dist = fees_in reached;
  closed = closed_in reached;
}

-- the edges out of closed nodes were relaxed
pub record IsForwardState (pass : ForwardState) : Type 0 where
  pub listed : AreListed pass.graph
  pub nodes : length pass.graph.points ≡ length pass.dist
  pub spread : IsSpread pass.measure (edges pass.graph) pass.request pass.dist pass.closed

-- a forward search over the same edges for the same request and measure
pub record IsSameForwardState (before after : ForwardState) : Type 0 where
  pub graph : after.graph ≡ before.graph
  pub request : after.request ≡ before.request
  pub measure : after.measure ≡ before.measure
  pub long : length after.dist ≡ length before.dist

-- the edges out of a node were relaxed
abbrev pub AreNear : ForwardState → ℕ → Type 0
AreNear pass node = (j : ℕ) → j < length (edges_leaving pass.graph node)
    → IsNear pass.measure pass.request (number_at pass.dist node) (length pass.dist) pass.dist
    (edge_at (edges_leaving pass.graph node) j)
