-- The representation of a view.
use Rattle.std.specs.Prelude.{◌≡◌, ◌==◌, not, ◌||◌, true, false, slice_get, slice_index_or, slice_set, filter, if◌then◌else◌}
use Rattle.std.specs.Prelude.{ℕ, ◌+◌, ◌<◌, ◌≤◌, ◌^◌, Bool, List, map, length, Option}
use Rattle.indexmap.specs.IndexSet.{spare}
use Rattle.std.specs.Vec.{vec_len, vec_capacity}
use Rattle.std.specs.List.{list_any}
use Rattle.std.specs.Option.{option_map_or}
use Rattle.lgm_wire.specs.declared.point.Point.{Point}
use Rattle.lgm_check.specs.declared.row.ChannelRow.{ChannelRow}
use Rattle.lgm_check.specs.declared.row.NodeRow.{NodeRow}
use Rattle.lgm_store.specs.Rows.{is_point, is_banned}
use Rattle.lgm_graph.specs.declared.edge.Edge.{Edge}
use Rattle.lgm_graph.specs.declared.node.Node.{Node}
use Rattle.lgm_graph.specs.declared.nodes.Nodes.{Nodes}
use Rattle.lgm_graph.specs.Edges.{PointEdge, takes_payments}
use Rattle.lgm_graph.specs.Graph.{Graph, GraphNode, Shows, bare_node}

abbrev pub node_in : Node → GraphNode
node_in node = record {
  accepts_payments = node.accepts_payments;
  into = node.into.items;
  out = node.out.items;
}

abbrev pub nodes_in : Nodes → List GraphNode
nodes_in nodes = map node_in nodes.nodes.items

-- the graph of numbered nodes
abbrev pub graph_in : Option (List ℕ) → Nodes → Graph
graph_in known nodes = record { known = known; points = nodes.points.keys; nodes = nodes_in nodes }

-- numbers have 32 bits, and some edges are in the lists of both of their nodes
pub record IsSound (graph : Graph) : Type 0 where
  pub few : length graph.points < 2 ^ 32
  pub accepts : Point → Bool
  pub edges : List PointEdge
  pub shows : Shows accepts edges graph.points graph.nodes

-- one more edge into a node fits the capacity
abbrev pub HasRoomInto : Node → Type 0
HasRoomInto node = vec_len node.into < vec_capacity node.into

-- one more edge out of it
abbrev pub HasRoomOut : Node → Type 0
HasRoomOut node = vec_len node.out < vec_capacity node.out

-- this many more nodes fit the capacity
pub record HasPlaces (more : ℕ) (stored : Nodes) : Type 0 where
  pub points : more ≤ spare stored.points
  pub nodes : vec_len stored.nodes + more ≤ vec_capacity stored.nodes

-- these points take payments, and these edges are in the lists of both of their nodes
abbrev pub ShowsIn : (Point → Bool) → List PointEdge → Nodes → Type 0
ShowsIn accepts edges nodes = Shows accepts edges nodes.points.keys (nodes_in nodes)

-- the nodes are those of the points
abbrev pub AreNodes : (Point → GraphNode) → Nodes → Type 0
AreNodes node_of nodes = nodes_in nodes ≡ map node_of nodes.points.keys

-- ---- changes of one node

-- the node of a number changes
abbrev pub change_at : ℕ → (GraphNode → GraphNode) → List GraphNode → List GraphNode
change_at number change nodes = slice_set nodes number (change (slice_index_or nodes number (bare_node false)))

-- the node of a point changes
abbrev pub changed_at : Point → (Point → GraphNode → GraphNode) → (Point → GraphNode) → Point → GraphNode
changed_at node change node_of point = if is_point node point then change point (node_of point) else node_of point

-- the edges into a node change, or those out of it
abbrev pub into_changed : (List Edge → List Edge) → GraphNode → GraphNode
into_changed change node = record node { into = change node.into }

abbrev pub out_changed : (List Edge → List Edge) → GraphNode → GraphNode
out_changed change node = record node { out = change node.out }

-- both, from one node to another
abbrev pub edge_changed : ℕ → ℕ → (List Edge → List Edge) → List GraphNode → List GraphNode
edge_changed from to change nodes = change_at from (out_changed change) (change_at to (into_changed change) nodes)

-- of its edges those stay that pass, and it takes payments or doesn't
abbrev pub kept_in : Bool → (Edge → Bool) → GraphNode → GraphNode
kept_in accepts_payments stays node = record {
  accepts_payments = accepts_payments;
  into = filter stays node.into;
  out = filter stays node.out;
}

-- the same for a node whose features are checked
abbrev pub looked_at : Option (List ℕ) → List NodeRow → (Edge → Bool) → Point → GraphNode → GraphNode
looked_at known rows stays point node = kept_in (takes_payments known rows point) stays node

-- its features are checked, and its edges stay
abbrev pub checked_at : Option (List ℕ) → List NodeRow → Point → GraphNode → GraphNode
checked_at known rows point node = record node { accepts_payments = takes_payments known rows point }

-- an edge of another channel
abbrev pub is_not_of : ℕ → Edge → Bool
is_not_of id edge = not (edge.scid == id)

-- whether the point of a number is banned
abbrev pub banned_at : List Point → List Point → ℕ → Bool
banned_at points banned number = option_map_or (is_banned banned) (slice_get points number) false

-- an edge between nodes that aren't banned
abbrev pub is_allowed : List Point → List Point → Edge → Bool
is_allowed points banned edge = not (banned_at points banned edge.from || banned_at points banned edge.to)

-- whether a point is among some
abbrev pub is_among : List Point → Point → Bool
is_among points point = list_any (λ other. is_point other point) points

-- both nodes of a channel are among some points
abbrev pub HasEnds : List Point → ChannelRow → Type 0
HasEnds points channel =
    (is_among points channel.message.node_id_1 ≡ true) × (is_among points channel.message.node_id_2 ≡ true)
