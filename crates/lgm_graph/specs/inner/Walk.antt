-- How the view of a map is built, channel by channel.
use Rattle.std.specs.Prelude.{◌≡◌, ℕ, ◌+◌, ◌*◌, ◌≤◌, Bool, false, true, List, [], ◌++◌}
use Rattle.std.specs.Prelude.{map, flat_map, length, Option, option_to_list}
use Rattle.std.specs.List.{AllByRecursion}
use Rattle.std.specs.Option.{option_and_then}
use Rattle.lgm_wire.specs.declared.point.Point.{Point}
use Rattle.lgm_check.specs.declared.row.ChannelRow.{ChannelRow}
use Rattle.lgm_check.specs.declared.row.UpdateRow.{UpdateRow}
use Rattle.lgm_check.specs.declared.row.NodeRow.{NodeRow}
use Rattle.lgm_store.specs.declared.channel_info.ChannelInfo.{ChannelInfo}
use Rattle.lgm_store.specs.ChannelInfo.{stored_at}
use Rattle.lgm_store.specs.Rows.{Rows, update_of}
use Rattle.lgm_graph.specs.declared.edge.Edge.{Edge}
use Rattle.lgm_graph.specs.declared.nodes.Nodes.{Nodes}
use Rattle.lgm_graph.specs.Edges.{PointEdge, edge_on, takes_payments}
use Rattle.lgm_graph.specs.Graph.{Graph, Shows, IsJoined, IsNumbered, numbered_in, number_of}
use Rattle.lgm_graph.specs.inner.Sound.{ShowsIn}

-- points keep their numbers
abbrev pub KeepsNumbers : List Point → List Point → Type 0
KeepsNumbers old new =
    (point : Point) → IsNumbered old point
    → (number_of new point ≡ number_of old point) × IsNumbered new point

-- a point was numbered, unless it was
pub record HasNumbered (known : Option (List ℕ)) (rows : List NodeRow) (point : Point)
    (old new : Nodes) : Type 0 where
  pub few : length new.points.keys ≤ length old.points.keys + 1
  pub kept : KeepsNumbers old.points.keys new.points.keys
  pub numbered : IsNumbered new.points.keys point
  pub shows : (point_edges : List PointEdge)
      → ShowsIn (takes_payments known rows) point_edges old → ShowsIn (takes_payments known rows) point_edges new

-- the edge of a direction of a channel
abbrev pub edge_of_direction : List UpdateRow → ChannelRow → Bool → Option PointEdge
edge_of_direction updates channel second =
    option_and_then (edge_on channel) (update_of updates channel.message.short_channel_id second)

-- the edges of a channel
abbrev pub edges_of_channel : List UpdateRow → ChannelRow → List PointEdge
edges_of_channel updates channel =
    option_to_list (edge_of_direction updates channel false)
    ++ option_to_list (edge_of_direction updates channel true)

-- the edges between points, all numbered, by the numbers of their nodes, in order
pub record AreEdgesOf (point_edges : List PointEdge) (points : List Point) (edges : List Edge) : Type 0 where
  pub joined : AllByRecursion (IsJoined points) point_edges
  pub edges_are : edges ≡ map (numbered_in points) point_edges

-- the state of the traversal with these channels still to come: the nodes of those before are numbered, and their
-- edges listed. No node has edges yet
pub record HasWalked (rows : Rows) (left : List ChannelInfo) (edges : List Edge) (graph : Graph) : Type 0 where
  pub done : List ChannelRow
  pub rest : List ChannelRow
  pub parts : rows.channels ≡ done ++ rest
  pub left_is : left ≡ map (stored_at rows) rest
  pub few : length graph.points ≤ 2 * length done
  pub ends : AllByRecursion (λ channel. IsNumbered graph.points channel.message.node_id_1
      × IsNumbered graph.points channel.message.node_id_2) done
  pub bare : Shows (takes_payments graph.known rows.nodes) [] graph.points graph.nodes
  pub edges_are : AreEdgesOf (flat_map (edges_of_channel rows.updates) done) graph.points edges
