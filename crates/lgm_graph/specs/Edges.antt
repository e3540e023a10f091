-- The edges of rows.
use Rattle.std.specs.Prelude.{◌≡◌, ◌≢◌, ◌⊎◌, Contains, ℕ, ◌*◌, ◌/◌, ◌%◌, Bool, true, not, ◌&&◌, nat_eq}
use Rattle.std.specs.Prelude.{nat_le, List, Option, Some, None, filter, if◌then◌else◌}
use Rattle.std.specs.List.{filter_map}
use Rattle.std.specs.Option.{option_and_then, option_map_or}
use Rattle.lgm_wire.specs.declared.point.Point.{Point}
use Rattle.lgm_gossip.specs.Features.{has_even_bit}
use Rattle.lgm_check.specs.declared.row.ChannelRow.{ChannelRow}
use Rattle.lgm_check.specs.declared.row.UpdateRow.{UpdateRow}
use Rattle.lgm_check.specs.declared.row.NodeRow.{NodeRow}
use Rattle.lgm_store.specs.Rows.{Rows, is_second, channel_of, node_of}
use Rattle.lgm_graph.specs.Known.{allows}

-- the direction isn't disabled, the channel has no even feature bit, and the maximum is at most the capacity
abbrev pub can_carry : ChannelRow → UpdateRow → Bool
can_carry channel row =
    nat_eq (row.message.channel_flags / 2 % 2) 0 && nat_le row.message.htlc_maximum_msat (channel.sat * 1000)
    && not (has_even_bit channel.message.features)

-- the node that a direction of a channel leaves
abbrev pub end_of : ChannelRow → Bool → Point
end_of channel second = if second then channel.message.node_id_2 else channel.message.node_id_1

-- an edge between points: a direction of a channel that payments can use
pub record PointEdge : Type 0 where
  pub scid : ℕ
  -- whether it is from node 2
  pub second : Bool
  pub from : Point
  pub to : Point
  -- the base fee, in msat, and the proportional fee, in millionths of the amount (ppm)
  pub base : ℕ
  pub millionths : ℕ
  -- the cltv_expiry_delta, in blocks
  pub delta : ℕ
  -- the least and the greatest amount that it forwards, in msat
  pub min : ℕ
  pub max : ℕ

-- the edge of an update: from its direction's node to the other one
unfoldable pub edge_of : ChannelRow → UpdateRow → PointEdge
edge_of channel row = record {
  scid = row.message.short_channel_id;
  second = is_second row;
  from = end_of channel (is_second row);
  to = end_of channel (not (is_second row));
  base = row.message.fee_base_msat;
  millionths = row.message.fee_proportional_millionths;
  delta = row.message.cltv_expiry_delta;
  min = row.message.htlc_minimum_msat;
  max = row.message.htlc_maximum_msat;
}

-- the edge of an update of a channel, if it can carry payments
abbrev pub edge_on : ChannelRow → UpdateRow → Option PointEdge
edge_on channel row = if can_carry channel row then Some (edge_of channel row) else None

-- the edge of an update, if its channel is in the map and it can carry payments
abbrev pub edge_in : List ChannelRow → UpdateRow → Option PointEdge
edge_in channels row =
    option_and_then (λ channel. edge_on channel row) (channel_of channels row.message.short_channel_id)

-- the edges, regardless of the features of the nodes that they lead to
abbrev pub carrying : Rows → List PointEdge
carrying rows = filter_map (edge_in rows.channels) rows.updates

-- a node takes payments unless its announcement has a feature that isn't allowed
abbrev pub takes_payments : Option (List ℕ) → List NodeRow → Point → Bool
takes_payments known nodes node =
    option_map_or (λ row. allows known row.message.features) (node_of nodes node) true

-- the edges, in the order of the update rows
abbrev pub edges_of : Option (List ℕ) → Rows → List PointEdge
edges_of known rows = filter (λ edge. takes_payments known rows.nodes edge.to) (carrying rows)

-- two edges of one channel are the same or have opposite directions
abbrev pub AreDirections : List PointEdge → Type 0
AreDirections edges =
    (edge other : PointEdge) → Contains edges edge → Contains edges other → edge.scid ≡ other.scid
    → (edge ≡ other) ⊎ ((edge.from ≡ other.to) × (edge.to ≡ other.from))

-- two edges with one id from one node are the same, unless they lead back to it: a node resolves an id among its own channels
abbrev pub AreKeyed : List PointEdge → Type 0
AreKeyed edges =
    (edge other : PointEdge) → Contains edges edge → Contains edges other → edge.from ≡ other.from
    → edge.scid ≡ other.scid → edge.from ≢ edge.to → edge ≡ other
