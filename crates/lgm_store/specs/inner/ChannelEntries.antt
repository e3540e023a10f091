-- One ordered map of channels with their updates, read as two ordered maps.
use Rattle.std.specs.Prelude.{ℕ, Bool, true, false, List, [], ◌∷◌, ◌++◌}
use Rattle.std.specs.Prelude.{map, Option, Some, None, if◌then◌else◌}
use Rattle.lgm_check.specs.declared.row.ChannelRow.{ChannelRow}
use Rattle.lgm_check.specs.declared.row.UpdateRow.{UpdateRow}
use Rattle.lgm_store.specs.declared.channel_info.ChannelInfo.{ChannelInfo}

-- a channel without updates
abbrev pub alone : ChannelRow → ChannelInfo
alone row = record { channel = row; first = None; second = None }

-- with the update of a direction replaced
abbrev pub with_update_in : Bool → ChannelInfo → UpdateRow → ChannelInfo
with_update_in second stored row =
    if second then record stored { second = Some row } else record stored { first = Some row }

-- the channels, by id
abbrev pub channel_entries : List (ℕ × ChannelInfo) → List (ℕ × ChannelRow)
channel_entries entries = map (λ entry. (entry.0, entry.1.channel)) entries

-- an update, by id and direction
abbrev pub update_entry : ℕ → Bool → Option UpdateRow → List ((ℕ × Bool) × UpdateRow)
update_entry id second None = []
update_entry id second (Some row) = ((id, second), row) ∷ []

-- the updates, by id and direction
abbrev pub update_entries : List (ℕ × ChannelInfo) → List ((ℕ × Bool) × UpdateRow)
update_entries [] = []
update_entries (entry ∷ entries) =
    update_entry entry.0 false entry.1.first
    ++ (update_entry entry.0 true entry.1.second ++ update_entries entries)
