use Rattle.std.proofs.Common.{◌≡◌, ◌++◌}
use Rattle.std.specs.List.{AllByRecursion, flat_map}
use Rattle.lgm_save.specs.Records.{IsRecord, update_records}
use Rattle.lgm_save.specs.inner.Pushing.{OnUpdate, updates_in}
use Rattle.lgm_save.proofs.records.push_updates.Given as goal

abbrev pub invariant-loop-stored : goal.invariant-loop-stored
invariant-loop-stored l = record {
  items : l.records.items ++ flat_map updates_in l.stored-iterator ≡ l.initial.records.items ++ update_records l.map;
  lawful : AllByRecursion IsRecord l.initial.records.items → AllByRecursion IsRecord l.records.items;
  spelled : AllByRecursion (λ stored. OnUpdate stored.first × OnUpdate stored.second) l.stored-iterator;
}
