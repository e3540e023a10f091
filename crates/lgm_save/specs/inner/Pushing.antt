-- Records that are pushed behind others.
use Rattle.std.specs.Prelude.{◌≡◌, Bool, List, ◌++◌, Option, Some, None}
use Rattle.std.specs.List.{AllByRecursion}
use Rattle.std.specs.Option.{option_to_list, option_map}
use Rattle.std.specs.Ordering.{is_lt}
use Rattle.std.specs.Prelude.{true}
use Rattle.lgm_wire.specs.declared.point.Point.{Point}
use Rattle.lgm_check.specs.declared.row.UpdateRow.{UpdateRow}
use Rattle.lgm_gossip.specs.Layout.{IsUpdate}
use Rattle.lgm_store.specs.ChannelWithUpdates.{ChannelWithUpdates}
use Rattle.lgm_store.specs.Rows.{by_point}
use Rattle.lgm_save.specs.declared.record.Record.{Record}
use Rattle.lgm_save.specs.Records.{IsRecord, update_record}

-- these were pushed, and all are records if those before were
pub record Pushes (more old new : List Record) : Type 0 where
  pub items : new ≡ old ++ more
  pub lawful : AllByRecursion IsRecord old → AllByRecursion IsRecord new

-- the bytes of an update, if there is one, encode it
abbrev pub OnUpdate : Option UpdateRow → Type 0
OnUpdate (Some row) = IsUpdate row.raw
OnUpdate None = Unit {0}

-- the record of an update, if there is one
abbrev pub update_list : Option UpdateRow → List Record
update_list row = option_to_list (option_map update_record row)

-- those of the updates of a channel
abbrev pub updates_in : ChannelWithUpdates → List Record
updates_in stored = update_list stored.first ++ update_list stored.second

-- whether a point is behind another one, if there is one
abbrev pub is_behind : Option Point → Point → Bool
is_behind None point = true
is_behind (Some after) point = is_lt (by_point after point)
