-- Channels with their updates, from the rows of a map.
use Rattle.std.specs.Prelude.{Bool, true, false, Option, if◌then◌else◌}
use Rattle.lgm_gossip.specs.declared.timestamps.Timestamps.{Timestamps}
use Rattle.lgm_check.specs.declared.row.ChannelRow.{ChannelRow}
use Rattle.lgm_check.specs.declared.row.UpdateRow.{UpdateRow}
use Rattle.lgm_store.specs.declared.channel_info.ChannelInfo.{ChannelInfo}
use Rattle.lgm_store.specs.ChannelWithUpdates.{timestamp_of}
use Rattle.lgm_store.specs.Rows.{Rows, update_of}

-- the update of a direction
abbrev pub update_in : Bool → ChannelInfo → Option UpdateRow
update_in second stored = if second then stored.second else stored.first

-- the timestamps of its updates
abbrev pub timestamps_in : ChannelInfo → Timestamps
timestamps_in stored = record { node_1 = timestamp_of stored.first; node_2 = timestamp_of stored.second }

-- a channel with its updates
abbrev pub stored_at : Rows → ChannelRow → ChannelInfo
stored_at rows row = record {
  channel = row;
  first = update_of rows.updates row.message.short_channel_id false;
  second = update_of rows.updates row.message.short_channel_id true;
}
