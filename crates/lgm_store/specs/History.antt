-- The rows after an operation, and after a history.
use Rattle.std.specs.Prelude.{ℕ, List, [], ◌∷◌, ◌==◌, ◌||◌, not, filter, is_some, if◌then◌else◌}
use Rattle.lgm_check.specs.declared.row.ChannelRow.{ChannelRow}
use Rattle.lgm_check.specs.declared.row.UpdateRow.{UpdateRow}
use Rattle.lgm_check.specs.declared.row.NodeRow.{NodeRow}
use Rattle.lgm_wire.specs.declared.point.Point.{Point}
use Rattle.lgm_check.specs.declared.row.BanRow.{BanRow}
use Rattle.lgm_store.specs.declared.op.Op.{Op}
use Rattle.lgm_store.specs.declared.op.Op.TheVariants as ops
use Rattle.lgm_store.specs.Rows.{Rows, empty, put, by_id, by_direction, by_node, by_point}
use Rattle.lgm_store.specs.Rows.{channel_of, ends_channel, ends_banned}

-- with one more channel, unless it is there or one of its nodes is banned
abbrev pub with_channel : Rows → ChannelRow → Rows
with_channel rows row =
    if is_some (channel_of rows.channels row.message.short_channel_id)
    || ends_banned rows.banned row then rows
    else record rows { channels = put by_id rows.channels row }

-- with an update, if its channel is there
abbrev pub with_update : Rows → UpdateRow → Rows
with_update rows row =
    if is_some (channel_of rows.channels row.message.short_channel_id)
    then record rows { updates = put by_direction rows.updates row }
    else rows

-- with a node announcement, if the node has a channel
abbrev pub with_node : Rows → NodeRow → Rows
with_node rows row =
    if ends_channel rows.channels row.message.node_id then record rows { nodes = put by_node rows.nodes row }
    else rows

-- the channels without the one with an id
abbrev pub channels_without : List ChannelRow → ℕ → List ChannelRow
channels_without rows id = filter (λ row. not (row.message.short_channel_id == id)) rows

-- the updates without those of a channel
abbrev pub updates_without : List UpdateRow → ℕ → List UpdateRow
updates_without rows id = filter (λ row. not (row.message.short_channel_id == id)) rows

-- the node announcements of nodes that have a channel
abbrev pub ended_nodes : List ChannelRow → List NodeRow → List NodeRow
ended_nodes channels rows = filter (λ row. ends_channel channels row.message.node_id) rows

-- without a channel that is there: removes it, its updates, and node announcements left without a channel
abbrev pub without_stored : Rows → ℕ → Rows
without_stored rows id = record {
  channels = channels_without rows.channels id;
  updates = updates_without rows.updates id;
  nodes = ended_nodes (channels_without rows.channels id) rows.nodes;
  banned = rows.banned;
}

-- without a channel, if it is there
abbrev pub without_channel : Rows → ℕ → Rows
without_channel rows id = if is_some (channel_of rows.channels id) then without_stored rows id else rows

-- with these points banned too, each once
abbrev pub with_points : List Point → List Point → List Point
with_points points [] = points
with_points points (point ∷ others) = with_points (put by_point points point) others

-- with the four points of a ban
abbrev pub with_banned : List Point → BanRow → List Point
with_banned points ban = with_points points (ban.held1 ∷ ban.held2 ∷ ban.new1 ∷ ban.new2 ∷ [])

-- the channels that have no banned node
abbrev pub allowed_channels : List Point → List ChannelRow → List ChannelRow
allowed_channels banned rows = filter (λ row. not (ends_banned banned row)) rows

-- those that have one
abbrev pub banned_channels : List Point → List ChannelRow → List ChannelRow
banned_channels banned rows = filter (ends_banned banned) rows

-- the updates without those of these channels
abbrev pub updates_beside : List ChannelRow → List UpdateRow → List UpdateRow
updates_beside gone rows = filter (λ row. not (is_some (channel_of gone row.message.short_channel_id))) rows

-- with these points banned: removes their channels, the updates of those, and node announcements left without a
-- channel
abbrev pub banning : Rows → List Point → Rows
banning rows banned = record {
  channels = allowed_channels banned rows.channels;
  updates = updates_beside (banned_channels banned rows.channels) rows.updates;
  nodes = ended_nodes (allowed_channels banned rows.channels) rows.nodes;
  banned = banned;
}

-- with the nodes of two announcements of a channel banned
abbrev pub with_ban : Rows → BanRow → Rows
with_ban rows ban = banning rows (with_banned rows.banned ban)

-- the rows after an operation
abbrev pub absorbed : Rows → Op → Rows
absorbed rows (ops.Channel row) = with_channel rows row
absorbed rows (ops.Update row) = with_update rows row
absorbed rows (ops.Node row) = with_node rows row
absorbed rows (ops.Close id) = without_channel rows id
absorbed rows (ops.Ban ban) = with_ban rows ban

-- the rows after further operations, in order
abbrev pub fold_from : Rows → List Op → Rows
fold_from rows [] = rows
fold_from rows (op ∷ others) = fold_from (absorbed rows op) others

-- the rows that a history leaves
abbrev pub fold : List Op → Rows
fold history = fold_from empty history
