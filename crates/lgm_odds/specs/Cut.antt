-- Cuts between a payer and a payee, and what can be carried across them.
use Rattle.std.specs.Prelude.{◌≡◌, ℕ, ◌-◌, ◌/◌, ◌%◌, ◌^◌, ◌<◌, Bool, true, false, not, ◌&&◌, ◌==◌, min, List, ◌++◌, sum_by}
use Rattle.std.specs.Prelude.{Option, Some, None, flat_map, option_to_list, if◌then◌else◌}
use Rattle.std.specs.List.{list_any}
use Rattle.std.specs.Option.{option_map, option_map_or}
use Rattle.lgm_wire.specs.declared.point.Point.{Point}
use Rattle.lgm_check.specs.declared.row.ChannelRow.{ChannelRow}
use Rattle.lgm_check.specs.declared.row.UpdateRow.{UpdateRow}
use Rattle.lgm_store.specs.Rows.{Rows, is_point, channel_of, update_of}
use Rattle.lgm_store.specs.Reading.{ids_at}
use Rattle.lgm_graph.specs.declared.estimate.Estimate.{Estimate}
use Rattle.lgm_graph.specs.declared.overlay.ExtraEdge.{ExtraEdge}
use Rattle.lgm_graph.specs.declared.overlay.Limit.{Limit}
use Rattle.lgm_graph.specs.Estimates.{estimate_of}
use Rattle.lgm_graph.specs.Overlay.{most_of}
use Rattle.lgm_odds.specs.declared.liquidity.Liquidity.{Liquidity}
use Rattle.lgm_odds.specs.declared.liquidity.CutEdge.{CutEdge}
use Rattle.lgm_odds.specs.Room.{other_end, room_from}

-- ---- what edges can carry

-- what is known of it: the rows, the edges beside the map, limits, what is believed, and the payer, whose channels are beside
-- the map
pub record Capacities : Type 0 where
  pub rows : Rows
  pub extra : List ExtraEdge
  pub limits : List Limit
  pub believed : ℕ → Point → Estimate
  pub payer : Point

abbrev pub capacities_of : Liquidity → Capacities
capacities_of liquidity = record {
  rows = liquidity.map.now;
  extra = liquidity.extra.now;
  limits = liquidity.limits.now;
  believed = estimate_of liquidity.estimates.now;
  payer = liquidity.payer;
}

-- the direction isn't disabled
abbrev pub is_enabled : UpdateRow → Bool
is_enabled row = row.message.channel_flags / 2 % 2 == 0

-- the direction of a channel from a node that isn't the payer has an update, and isn't disabled
abbrev pub is_open : Capacities → ChannelRow → Point → Bool
is_open known channel from =
    not (is_point from known.payer)
    && option_map_or is_enabled (update_of known.rows.updates channel.message.short_channel_id (is_point channel.message.node_id_2 from)) false

-- what a channel of the map can carry from a node to another one, in all
abbrev pub edge_from : Capacities → ChannelRow → Point → Point → CutEdge
edge_from known channel from to = record {
  scid = channel.message.short_channel_id;
  from = from;
  to = to;
  room = if is_open known channel from then room_from known.limits known.believed from channel else 0;
}

-- its edge into a node, or else out of it
abbrev pub edge_at : Capacities → Bool → Point → ChannelRow → CutEdge
edge_at known inward node channel =
    if inward then edge_from known channel (other_end channel node) node else edge_from known channel node (other_end channel node)

abbrev pub edge_by : Capacities → Bool → Point → ℕ → Option CutEdge
edge_by known inward node id = option_map (edge_at known inward node) (channel_of known.rows.channels id)

-- what an edge beside the map can carry
abbrev pub extra_cut_edge : Capacities → ExtraEdge → CutEdge
extra_cut_edge known edge = record {
  scid = edge.scid;
  from = edge.from;
  to = edge.to;
  room = most_of known.limits edge.scid edge.from edge.max;
}

-- if it leads into a node, or else out of it
abbrev pub extra_at : Capacities → Bool → Point → ExtraEdge → Option CutEdge
extra_at known inward node edge =
    if is_point (if inward then edge.to else edge.from) node then Some (extra_cut_edge known edge) else None

-- the edges into a node, or else out of it, by the ids of the node's channels
abbrev pub edges_by : Capacities → Bool → Point → List ℕ → List CutEdge
edges_by known inward node ids =
    flat_map (λ edge. option_to_list (extra_at known inward node edge)) known.extra
    ++ flat_map (λ id. option_to_list (edge_by known inward node id)) ids

abbrev pub edges_at : Capacities → Bool → Point → List CutEdge
edges_at known inward node = edges_by known inward node (ids_at known.rows.channels node)

-- ---- cuts

-- the nodes of one side of a cut, and whether it is the payee's
pub record CutParts : Type 0 where
  pub nodes : List Point
  pub of_payee : Bool

-- the node is on the payer's side
abbrev pub is_near : CutParts → Point → Bool
is_near cut node = if cut.of_payee then not (list_any (is_point node) cut.nodes) else list_any (is_point node) cut.nodes

-- the payer is on its own side, and the payee isn't
pub record IsCut (payer payee : Point) (cut : CutParts) : Type 0 where
  pub near : is_near cut payer ≡ true
  pub far : is_near cut payee ≡ false

-- the edge leads from the payer's side to the payee's
abbrev pub crosses : CutParts → CutEdge → Bool
crosses cut edge = is_near cut edge.from && not (is_near cut edge.to)

-- what an edge can carry across
abbrev pub across : CutParts → CutEdge → ℕ
across cut edge = if crosses cut edge then edge.room else 0

-- what the edges of a node can
abbrev pub across_at : Capacities → CutParts → Point → ℕ
across_at known cut node = sum_by (across cut) (edges_at known cut.of_payee node)

-- what all edges can carry across together, in msat: of 64 bits
abbrev pub room_across : Capacities → CutParts → ℕ
room_across known cut = min (2 ^ 64 - 1) (sum_by (across_at known cut) cut.nodes)

-- less than an amount can be carried across a cut from the payer to a payee: this much
pub record IsNarrowCut (known : Capacities) (payee : Point) (amount : ℕ) (cut : CutParts) (room : ℕ) : Type 0 where
  pub parts : IsCut known.payer payee cut
  pub room_is : room ≡ room_across known cut
  pub less : room < amount
