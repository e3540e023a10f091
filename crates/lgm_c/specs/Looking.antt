-- Channels and nodes, as C gets them.
use Rattle.std.specs.Prelude.{◌≡◌, ℕ, ◌==◌, if◌then◌else◌, true, false, List, length, Option, Some, None, Result, Ok, Err}
use Rattle.lgm_check.specs.declared.row.ChannelRow.{ChannelRow}
use Rattle.lgm_check.specs.declared.row.UpdateRow.{UpdateRow}
use Rattle.lgm_check.specs.declared.row.NodeRow.{NodeRow}
use Rattle.lgm_check.specs.declared.refusal.Refusal.TheVariants as refusals
use Rattle.lgm_store.specs.Rows.{Rows, channel_of, update_of, node_of}
use Rattle.lgm_c.specs.declared.lookups.LgmDirection.{LgmDirection}
use Rattle.lgm_c.specs.declared.lookups.LgmChannel.{LgmChannel}
use Rattle.lgm_c.specs.declared.lookups.LgmNode.{LgmNode}
use Rattle.lgm_c.specs.declared.argument_fault.ArgumentFault.TheVariants as wrong
use Rattle.lgm_c.specs.declared.fault.Fault.{Fault}
use Rattle.lgm_c.specs.declared.fault.Fault.TheVariants as faults
use Rattle.lgm_c.specs.Status.{number_of}
use Rattle.lgm_c.specs.Writing.{Buffer, IsWritten}

-- the number of channels, if there is a map: else 0
abbrev pub count_of : Option Rows → ℕ
count_of None = 0
count_of (Some rows) = length rows.channels

-- the terms of a direction, or zeros if there is no update
abbrev pub c_direction : Option UpdateRow → LgmDirection
c_direction (Some row) = record {
  is_held = true;
  message_flags = row.message.message_flags;
  channel_flags = row.message.channel_flags;
  cltv_expiry_delta = row.message.cltv_expiry_delta;
  timestamp = row.message.timestamp;
  fee_base_msat = row.message.fee_base_msat;
  fee_proportional_millionths = row.message.fee_proportional_millionths;
  htlc_minimum_msat = row.message.htlc_minimum_msat;
  htlc_maximum_msat = row.message.htlc_maximum_msat;
}
c_direction None = record {
  is_held = false;
  message_flags = 0;
  channel_flags = 0;
  cltv_expiry_delta = 0;
  timestamp = 0;
  fee_base_msat = 0;
  fee_proportional_millionths = 0;
  htlc_minimum_msat = 0;
  htlc_maximum_msat = 0;
}

abbrev pub c_channel : ChannelRow → Option UpdateRow → Option UpdateRow → LgmChannel
c_channel row first second = record {
  capacity_sat = row.sat;
  node_1 = row.message.node_id_1.0;
  node_2 = row.message.node_id_2.0;
  from_1 = c_direction first;
  from_2 = c_direction second;
}

abbrev pub channel_in : Rows → ℕ → Option ChannelRow → Result LgmChannel Fault
channel_in rows id (Some row) =
    Ok (c_channel row (update_of rows.updates id false) (update_of rows.updates id true))
channel_in rows id None = Err (faults.Refused refusals.UnknownChannel)

-- the channel with an id
abbrev pub channel_found : ℕ → Rows → Result LgmChannel Fault
channel_found id rows = channel_in rows id (channel_of rows.channels id)

abbrev pub c_node : NodeRow → LgmNode
c_node row =
    record { timestamp = row.message.timestamp; rgb = row.message.rgb_color; alias = row.message.alias }

abbrev pub announced : Option NodeRow → Result NodeRow Fault
announced (Some row) = Ok row
announced None = Err faults.NotAnnounced

-- the announcement of a node
abbrev pub node_found : List ℕ → Rows → Result NodeRow Fault
node_found point rows = announced (node_of rows.nodes (record { 0 = point }))

-- the bytes of a channel's announcement, and of an update
abbrev pub announcement_in : Option ChannelRow → Result (List ℕ) Fault
announcement_in (Some row) = Ok row.raw
announcement_in None = Err (faults.Refused refusals.UnknownChannel)

abbrev pub update_in : Option ChannelRow → Option UpdateRow → Result (List ℕ) Fault
update_in None update = Err (faults.Refused refusals.UnknownChannel)
update_in (Some row) None = Err faults.None
update_in (Some row) (Some update) = Ok update.raw

-- a message of a channel: 0 is the announcement, 1 and 2 are the updates of node 1 and node 2
abbrev pub channel_message_found : ℕ → ℕ → Rows → Result (List ℕ) Fault
channel_message_found id which rows =
    if which == 0 then announcement_in (channel_of rows.channels id)
    else if which == 1 then update_in (channel_of rows.channels id) (update_of rows.updates id false)
    else if which == 2 then update_in (channel_of rows.channels id) (update_of rows.updates id true)
    else Err (faults.Argument wrong.Which)

-- the bytes of a node's announcement
abbrev pub bytes_of_node : Result NodeRow Fault → Result (List ℕ) Fault
bytes_of_node (Ok row) = Ok row.raw
bytes_of_node (Err fault) = Err fault

abbrev pub node_message_found : List ℕ → Rows → Result (List ℕ) Fault
node_message_found point rows = bytes_of_node (node_found point rows)

-- a node was written, with its addresses or only their length, or the fault was returned
abbrev pub WritesNode : Result NodeRow Fault → ℕ → LgmNode → LgmNode → Buffer → Buffer → Type 0
WritesNode (Ok row) status old_node new_node old new =
    (new_node ≡ c_node row) × IsWritten row.message.addresses status old new
WritesNode (Err fault) status old_node new_node old new =
    (status ≡ number_of fault) × (new_node ≡ old_node) × (new ≡ old)
