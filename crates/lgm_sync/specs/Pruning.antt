-- Channels that may be pruned, as they are old.
use Rattle.std.specs.Prelude.{ℕ, max, Bool, ◌||◌, nat_lt, if◌then◌else◌, List, map, filter, is_some}
use Rattle.lgm_store.specs.declared.channel_info.ChannelInfo.{ChannelInfo}
use Rattle.lgm_store.specs.ChannelInfo.{stored_at}
use Rattle.lgm_store.specs.ChannelWithUpdates.{timestamp_of}
use Rattle.lgm_store.specs.Reading.{block_of}
use Rattle.lgm_store.specs.Rows.{Rows}
use Rattle.lgm_sync.specs.declared.pruning.StaleChannel.{StaleChannel}

-- whether a channel has an update, of either direction
abbrev pub has_update : ChannelInfo → Bool
has_update stored = is_some stored.first || is_some stored.second

-- the timestamp of its latest update, or 0 without one
abbrev pub latest_time : ChannelInfo → ℕ
latest_time stored = max (timestamp_of stored.first) (timestamp_of stored.second)

-- whether its latest update is from before a time, or, if it has none, its block is below one
abbrev pub is_prunable : ℕ → ℕ → ChannelInfo → Bool
is_prunable before block stored =
    if has_update stored then nat_lt (latest_time stored) before
    else nat_lt (block_of stored.channel.message.short_channel_id) block

-- its id, with the time of its latest update
abbrev pub as_stale : ChannelInfo → StaleChannel
as_stale stored = record { scid = stored.channel.message.short_channel_id; time = latest_time stored }

-- those of some channels
abbrev pub prunable_in : ℕ → ℕ → List ChannelInfo → List StaleChannel
prunable_in before block channels = map as_stale (filter (is_prunable before block) channels)

-- those of a map, by ascending id
abbrev pub prunable_of : Rows → ℕ → ℕ → List StaleChannel
prunable_of rows before block = prunable_in before block (map (stored_at rows) rows.channels)
