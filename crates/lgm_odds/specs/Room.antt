-- How much may reach a node.
use Rattle.std.specs.Prelude.{ℕ, ◌+◌, ◌-◌, ◌*◌, ◌^◌, min, List, sum_by, if◌then◌else◌}
use Rattle.std.specs.Option.{option_map_or}
use Rattle.lgm_wire.specs.declared.point.Point.{Point}
use Rattle.lgm_check.specs.declared.row.ChannelRow.{ChannelRow}
use Rattle.lgm_store.specs.Rows.{Rows, is_point, channel_of}
use Rattle.lgm_store.specs.Reading.{ids_at}
use Rattle.lgm_graph.specs.declared.estimate.Estimate.{Estimate}
use Rattle.lgm_graph.specs.declared.overlay.ExtraEdge.{ExtraEdge}
use Rattle.lgm_graph.specs.declared.overlay.Limit.{Limit}
use Rattle.lgm_graph.specs.Overlay.{most_of}

-- the other node of a channel
abbrev pub other_end : ChannelRow → Point → Point
other_end channel node = if is_point channel.message.node_id_1 node then channel.message.node_id_2 else channel.message.node_id_1

-- what a channel can carry from a node: its capacity, of 64 bits, or what is believed of it, or a limit, whichever is least
abbrev pub room_from : List Limit → (ℕ → Point → Estimate) → Point → ChannelRow → ℕ
room_from limits believed from channel =
    let id = channel.message.short_channel_id in
    most_of limits id from (min (min (2 ^ 64 - 1) (channel.sat * 1000)) (believed id from).most)

-- and to a node
abbrev pub room_of : List Limit → (ℕ → Point → Estimate) → Point → ChannelRow → ℕ
room_of limits believed node channel = room_from limits believed (other_end channel node) channel

abbrev pub room_by : Rows → List Limit → (ℕ → Point → Estimate) → Point → ℕ → ℕ
room_by rows limits believed node id = option_map_or (room_of limits believed node) (channel_of rows.channels id) 0

-- what an edge beside the map can carry to it
abbrev pub extra_into : Point → ExtraEdge → ℕ
extra_into node edge = if is_point edge.to node then edge.max else 0

-- the edges into a node have no more room together: of 64 bits
abbrev pub room_into : Rows → List ExtraEdge → List Limit → (ℕ → Point → Estimate) → Point → ℕ
room_into rows extra limits believed node =
    min (2 ^ 64 - 1) (sum_by (extra_into node) extra + sum_by (room_by rows limits believed node) (ids_at rows.channels node))
