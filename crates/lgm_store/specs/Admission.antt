-- Whether an item is admitted to a map of these rows.
use Rattle.std.specs.Prelude.{◌≡◌, ◌⊎◌, ℕ, Bool, true, not, ◌&&◌, nat_lt, List, is_some}
use Rattle.std.specs.Prelude.{Option, Some, None, Result, Ok, Err, if◌then◌else◌}
use Rattle.lgm_wire.specs.reading.Reading.{◌>>=◌}
use Rattle.lgm_wire.specs.declared.point.Point.{Point}
use Rattle.lgm_check.specs.declared.row.ChannelRow.{ChannelRow}
use Rattle.lgm_check.specs.declared.row.UpdateRow.{UpdateRow}
use Rattle.lgm_check.specs.declared.row.NodeRow.{NodeRow}
use Rattle.lgm_check.specs.declared.row.BanRow.{BanRow}
use Rattle.lgm_check.specs.declared.row.Checked.{Checked}
use Rattle.lgm_check.specs.declared.row.Checked.TheVariants as messages
use Rattle.lgm_check.specs.declared.refusal.Refusal.{Refusal}
use Rattle.lgm_check.specs.declared.refusal.Refusal.TheVariants as refusals
use Rattle.lgm_check.specs.Precheck.{require}
use Rattle.lgm_store.specs.declared.op.Op.{Op}
use Rattle.lgm_store.specs.declared.op.Op.TheVariants as ops
use Rattle.lgm_store.specs.Rows.{Rows, is_point, is_second, channel_of, update_of}
use Rattle.lgm_store.specs.Rows.{node_of, ends_channel, is_banned, ends_banned}

-- two rows have the same nodes
abbrev pub have_same_nodes : ChannelRow → ChannelRow → Bool
have_same_nodes a b =
    is_point a.message.node_id_1 b.message.node_id_1 && is_point a.message.node_id_2 b.message.node_id_2

-- the ban of the nodes of two announcements
abbrev pub ban_of : ChannelRow → ChannelRow → BanRow
ban_of stored row = record {
  held1 = stored.message.node_id_1;
  held2 = stored.message.node_id_2;
  new1 = row.message.node_id_1;
  new2 = row.message.node_id_2;
}

-- a channel announcement without a banned node, given the stored row of its id: it adds the channel if there is none,
-- is known if the nodes are the same, and else bans the nodes of both
abbrev pub announced : Option ChannelRow → ChannelRow → Result Op Refusal
announced None row = Ok (ops.Channel row)
announced (Some stored) row =
    if have_same_nodes stored row then Err refusals.Known else Ok (ops.Ban (ban_of stored row))

-- a channel announcement, given the banned points and the stored row of its id
abbrev pub channel_admission : List Point → Option ChannelRow → ChannelRow → Result Op Refusal
channel_admission banned stored row = do
  allowed ← require (not (ends_banned banned row)) refusals.Banned
  announced stored row

-- the node that has to sign an update
abbrev pub node_by : ChannelRow → UpdateRow → Point
node_by channel row = if is_second row then channel.message.node_id_2 else channel.message.node_id_1

-- an update is newer than the stored one
abbrev pub update_is_newer : Option UpdateRow → UpdateRow → Bool
update_is_newer None row = true
update_is_newer (Some stored) row = nat_lt stored.message.timestamp row.message.timestamp

-- an update, given the stored rows of its channel and of its direction
abbrev pub update_admission : Option ChannelRow → Option UpdateRow → UpdateRow → Point → Result Op Refusal
update_admission None stored row signer = Err refusals.UnknownChannel
update_admission (Some channel) stored row signer = do
  signed ← require (is_point signer (node_by channel row)) refusals.Signature
  newer ← require (update_is_newer stored row) refusals.NotNewer
  Ok (ops.Update row)

-- a node announcement is newer than the stored one
abbrev pub node_is_newer : Option NodeRow → NodeRow → Bool
node_is_newer None row = true
node_is_newer (Some stored) row = nat_lt stored.message.timestamp row.message.timestamp

-- a node announcement, given whether the node is banned, whether it has a channel, and its stored row
abbrev pub node_admission : Bool → Bool → Option NodeRow → NodeRow → Result Op Refusal
node_admission banned ends stored row = do
  allowed ← require (not banned) refusals.Banned
  known ← require ends refusals.UnknownNode
  newer ← require (node_is_newer stored row) refusals.NotNewer
  Ok (ops.Node row)

-- the operation of an admitted message
abbrev pub admitted : Rows → Checked → Result Op Refusal
admitted rows (messages.Channel row) =
    channel_admission rows.banned (channel_of rows.channels row.message.short_channel_id) row
admitted rows (messages.Update row signer) =
    update_admission (channel_of rows.channels row.message.short_channel_id)
    (update_of rows.updates row.message.short_channel_id (is_second row)) row signer
admitted rows (messages.Node row) =
    node_admission (is_banned rows.banned row.message.node_id)
    (ends_channel rows.channels row.message.node_id) (node_of rows.nodes row.message.node_id) row

-- the operation of an admitted close: its channel is there
abbrev pub admitted_close : Rows → ℕ → Result Op Refusal
admitted_close rows id =
    require (is_some (channel_of rows.channels id)) refusals.UnknownChannel >>= λ _. Ok (ops.Close id)

-- whether it is admitted, without the operation
abbrev pub verdict_of : Result Op Refusal → Result (Unit {0}) Refusal
verdict_of (Ok op) = Ok tt
verdict_of (Err refusal) = Err refusal

-- what a call may return: the operation or out of memory if it is admitted; else the refusal, always
abbrev pub Offers : Result Op Refusal → Result Op Refusal → Type 0
Offers answer (Ok op) = (answer ≡ Ok op) ⊎ (answer ≡ Err refusals.NoMemory)
Offers answer (Err refusal) = answer ≡ Err refusal
