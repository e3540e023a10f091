use Rattle.std.proofs.Common.{◌≡◌, ◌++◌, map}
use Rattle.std.specs.List.{AllByRecursion}
use Rattle.lgm_gossip.specs.Layout.{IsNodeAnnounce}
use Rattle.lgm_save.specs.Records.{IsRecord, node_record, node_records}
use Rattle.lgm_save.proofs.records.push_nodes.Given as goal

abbrev pub invariant-loop-stored : goal.invariant-loop-stored
invariant-loop-stored l = record {
  items : l.records.items ++ map node_record l.stored-iterator ≡ l.initial.records.items ++ node_records l.map;
  lawful : AllByRecursion IsRecord l.initial.records.items → AllByRecursion IsRecord l.records.items;
  spelled : AllByRecursion (λ row. IsNodeAnnounce row.raw) l.stored-iterator;
}
