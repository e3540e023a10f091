-- Channels by id.
use Rattle.std.specs.Prelude.{ℕ, List, Option, Some, None}
use Rattle.std.specs.Map.{lookup, set_value}
use Rattle.std.specs.BTreeMap.{is_at}
use Rattle.std.specs.Ordering.{nat_cmp}
use Rattle.lgm_check.specs.declared.row.UpdateRow.{UpdateRow}
use Rattle.lgm_store.specs.declared.channel_info.ChannelInfo.{ChannelInfo}
use Rattle.lgm_store.specs.Rows.{is_second}
use Rattle.lgm_store.specs.inner.ChannelEntries.{with_update_in}

-- the id of a channel
abbrev pub id_in : ChannelInfo → ℕ
id_in stored = stored.channel.message.short_channel_id

-- with an update of a direction replaced, if its channel is there
abbrev pub with_update_for : Option ChannelInfo → List (ℕ × ChannelInfo) → UpdateRow → List (ℕ × ChannelInfo)
with_update_for None entries row = entries
with_update_for (Some stored) entries row =
    set_value (is_at (nat_cmp row.message.short_channel_id)) entries (with_update_in (is_second row) stored row)

abbrev pub with_update_at : List (ℕ × ChannelInfo) → UpdateRow → List (ℕ × ChannelInfo)
with_update_at entries row =
    with_update_for (lookup (is_at (nat_cmp row.message.short_channel_id)) entries) entries row
