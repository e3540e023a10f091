-- The graph of a view: numbered points, and the edges between them.
use Rattle.std.specs.Prelude.{◌≡◌, ℕ, ◌<◌, Bool, false, List, [], map, filter, flat_map}
use Rattle.std.specs.Prelude.{length, slice_index_or, Contains, Option, if◌then◌else◌}
use Rattle.std.specs.List.{AllByRecursion, IsDistinct, position_or_len}
use Rattle.lgm_wire.specs.declared.point.Point.{Point}
use Rattle.lgm_store.specs.Rows.{Rows, is_point}
use Rattle.lgm_graph.specs.declared.edge.Edge.{Edge}
use Rattle.lgm_graph.specs.Edges.{PointEdge, carrying, takes_payments}

-- a node of a graph
pub record GraphNode : Type 0 where
  -- whether it takes payments
  pub accepts_payments : Bool
  -- the edges into it
  pub into : List Edge
  -- the edges out of it
  pub out : List Edge

-- points by number, and the node of each
pub record Graph : Type 0 where
  -- the known feature bits, or none if all are known
  pub known : Option (List ℕ)
  -- a point's index is its number
  pub points : List Point
  pub nodes : List GraphNode

-- the number of a point, or the number of points if it has none
abbrev pub number_of : List Point → Point → ℕ
number_of points point = position_or_len (is_point point) points

-- it has a number
abbrev pub IsNumbered : List Point → Point → Type 0
IsNumbered points point = number_of points point < length points

-- an edge, with these numbers for its nodes
abbrev pub numbered_as : PointEdge → ℕ → ℕ → Edge
numbered_as edge from to = record {
  scid = edge.scid;
  max = edge.max;
  min = edge.min;
  from = from;
  to = to;
  base = edge.base;
  millionths = edge.millionths;
  delta = edge.delta;
  second = edge.second;
}

-- an edge by the numbers of its nodes
abbrev pub numbered_in : List Point → PointEdge → Edge
numbered_in points edge = numbered_as edge (number_of points edge.from) (number_of points edge.to)

-- a placeholder if no point has the number
abbrev pub no_point : Point
no_point = record { 0 = [] }

-- an edge as one between points
abbrev pub edge_between : List Point → Edge → PointEdge
edge_between points edge = record {
  scid = edge.scid;
  second = edge.second;
  from = slice_index_or points edge.from no_point;
  to = slice_index_or points edge.to no_point;
  base = edge.base;
  millionths = edge.millionths;
  delta = edge.delta;
  min = edge.min;
  max = edge.max;
}

-- ---- the contents of a view

-- a node without edges
abbrev pub bare_node : Bool → GraphNode
bare_node accepts_payments = record { accepts_payments = accepts_payments; into = []; out = [] }

-- the node of a number: one that takes no payments if there is none
abbrev pub node_at : Graph → ℕ → GraphNode
node_at graph number = slice_index_or graph.nodes number (bare_node false)

-- whether the node of a number takes payments
abbrev pub takes_at : Graph → ℕ → Bool
takes_at graph number = (node_at graph number).accepts_payments

-- the edges that payments can take into a node: none if it takes no payments
abbrev pub open_into : GraphNode → List Edge
open_into node = if node.accepts_payments then node.into else []

-- those into the node of a number
abbrev pub edges_into : Graph → ℕ → List Edge
edges_into graph number = open_into (node_at graph number)

-- the edges out of the node of a number, whether or not the nodes that they lead to take payments
abbrev pub edges_leaving : Graph → ℕ → List Edge
edges_leaving graph number = (node_at graph number).out

-- the edges that payments can take
abbrev pub edges : Graph → List Edge
edges graph = flat_map open_into graph.nodes

-- those edges, between points
abbrev pub point_edges : Graph → List PointEdge
point_edges graph = map (edge_between graph.points) (edges graph)

-- an edge is between numbered nodes, and in the lists of both
pub record IsListed (graph : Graph) (edge : Edge) : Type 0 where
  pub from : edge.from < length graph.points
  pub to : edge.to < length graph.points
  pub there : Contains (edges_into graph edge.to) edge
  pub leaves : Contains (edges_leaving graph edge.from) edge
  -- the numbers are those of its nodes
  pub back : numbered_in graph.points (edge_between graph.points edge) ≡ edge

-- different points have different numbers, and each edge is in the lists of its nodes and nowhere else
pub record AreListed (graph : Graph) : Type 0 where
  -- each number has a node
  pub long : length graph.nodes ≡ length graph.points
  pub unique : IsDistinct is_point graph.points
  pub each : (edge : Edge) → Contains (edges graph) edge → IsListed graph edge
  pub into : (number : ℕ) (edge : Edge) → Contains (edges_into graph number) edge
      → (edge.to ≡ number) × Contains (edges graph) edge
  pub leaving : (number : ℕ) (edge : Edge) → Contains (edges_leaving graph number) edge
      → (edge.from ≡ number) × (edge.to < length graph.points)

-- ---- the view of rows

-- the edges that have a point as an end, by number
abbrev pub edges_with : (PointEdge → Point) → List Point → List PointEdge → Point → List Edge
edges_with end points edges point = map (numbered_in points) (filter (λ edge. is_point point (end edge)) edges)

-- the node of a point, with the edges that lead to it and leave it
abbrev pub node_with : (Point → Bool) → List Point → List PointEdge → Point → GraphNode
node_with accepts points edges point = record {
  accepts_payments = accepts point;
  into = edges_with (λ edge. edge.to) points edges point;
  out = edges_with (λ edge. edge.from) points edges point;
}

-- both nodes of an edge are numbered
abbrev pub IsJoined : List Point → PointEdge → Type 0
IsJoined points edge = IsNumbered points edge.from × IsNumbered points edge.to

-- these edges are in the lists of both of their nodes, and these points take payments
pub record Shows (accepts : Point → Bool) (edges : List PointEdge) (points : List Point) (nodes : List GraphNode) : Type 0 where
  pub joined : AllByRecursion (IsJoined points) edges
  pub nodes_are : nodes ≡ map (node_with accepts points edges) points

-- the view is that of the rows: the nodes of each channel are numbered, each node's features are checked, and the edges
-- are in the lists of their nodes
pub record IsGraphOf (rows : Rows) (graph : Graph) : Type 0 where
  pub ends : AllByRecursion (λ channel. IsNumbered graph.points channel.message.node_id_1
      × IsNumbered graph.points channel.message.node_id_2) rows.channels
  pub shows : Shows (takes_payments graph.known rows.nodes) (carrying rows) graph.points graph.nodes
