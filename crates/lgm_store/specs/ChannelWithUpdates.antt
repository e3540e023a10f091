-- A channel's row with the rows of its updates.
use Rattle.std.specs.Prelude.{ℕ, Option}
use Rattle.std.specs.Option.{option_map_or}
use Rattle.lgm_check.specs.declared.row.ChannelRow.{ChannelRow}
use Rattle.lgm_check.specs.declared.row.UpdateRow.{UpdateRow}

pub record ChannelWithUpdates : Type 0 where
  pub channel : ChannelRow
  -- the update from node 1
  pub first : Option UpdateRow
  -- the update from node 2
  pub second : Option UpdateRow

-- the timestamp of an update, or 0 if there is none
abbrev pub timestamp_of : Option UpdateRow → ℕ
timestamp_of row = option_map_or (λ row. row.message.timestamp) row 0
