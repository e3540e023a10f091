-- What reading a map returns of its rows, which ascend by key.
use Rattle.std.specs.Prelude.{ℕ, Bool, ◌/◌, ◌^◌, ◌&&◌, true, nat_le, nat_lt}
use Rattle.std.specs.Prelude.{List, Option, Some, None, filter, find, map}
use Rattle.std.specs.Cmp.Lexicographic.{slice_cmp}
use Rattle.std.specs.Ordering.{is_lt, nat_cmp}
use Rattle.lgm_wire.specs.declared.point.Point.{Point}
use Rattle.lgm_check.specs.declared.row.ChannelRow.{ChannelRow}
use Rattle.lgm_check.specs.declared.row.NodeRow.{NodeRow}
use Rattle.lgm_store.specs.Rows.{ends_at}

-- the first channel above an id, or the first of all
abbrev pub next_channel_of : List ChannelRow → Option ℕ → Option ChannelRow
next_channel_of rows None = find (λ row. true) rows
next_channel_of rows (Some id) = find (λ row. nat_lt id row.message.short_channel_id) rows

-- the first node above a point, byte by byte, or the first of all
abbrev pub next_node_of : List NodeRow → Option Point → Option NodeRow
next_node_of rows None = find (λ row. true) rows
next_node_of rows (Some node) = find (λ row. is_lt (slice_cmp nat_cmp node.0 row.message.node_id.0)) rows

-- the first point above one, byte by byte, or the first of all
abbrev pub next_point_of : List Point → Option Point → Option Point
next_point_of points None = find (λ point. true) points
next_point_of points (Some after) = find (λ point. is_lt (slice_cmp nat_cmp after.0 point.0)) points

-- the ids of the node's channels; a channel both of whose nodes it is occurs once
abbrev pub ids_at : List ChannelRow → Point → List ℕ
ids_at rows node = map (λ row. row.message.short_channel_id) (filter (ends_at node) rows)

-- the block of an id: its highest three bytes of eight
abbrev pub block_of : ℕ → ℕ
block_of id = id / 2 ^ 40

-- whether an id's block is at least `from` and below `to`
abbrev pub is_between : ℕ → ℕ → ℕ → Bool
is_between id from to = nat_le from (block_of id) && nat_lt (block_of id) to

-- those ids
abbrev pub ids_between_of : List ChannelRow → ℕ → ℕ → List ℕ
ids_between_of rows from to =
    filter (λ id. is_between id from to) (map (λ row. row.message.short_channel_id) rows)

-- the channels of those ids
abbrev pub channels_between_of : List ChannelRow → ℕ → ℕ → List ChannelRow
channels_between_of rows from to = filter (λ row. is_between row.message.short_channel_id from to) rows
