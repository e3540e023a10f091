use Rattle.std.proofs.Common.{◌≡◌, ◌++◌, map, length}
use Rattle.std.specs.List.{AllByRecursion, filter}
use Rattle.lgm_save.specs.Records.{IsRecord, ban_record, ban_records}
use Rattle.lgm_save.specs.inner.Pushing.{is_behind}
use Rattle.lgm_save.proofs.records.push_bans.Given as goal

abbrev pub invariant-bans : goal.invariant-bans
invariant-bans l = record {
  items : l.records.items ++ map ban_record (filter (is_behind l.after) l.map.banned) ≡ l.initial.records.items ++ ban_records l.map;
  lawful : AllByRecursion IsRecord l.initial.records.items → AllByRecursion IsRecord l.records.items;
}

abbrev pub decreases-bans : goal.decreases-bans
decreases-bans l = length (filter (is_behind l.after) l.map.banned)
