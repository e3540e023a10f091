use Rattle.std.proofs.Common.{◌≡◌, ◌++◌, map}
use Rattle.std.specs.List.{AllByRecursion}
use Rattle.lgm_gossip.specs.Layout.{IsAnnounce}
use Rattle.lgm_save.specs.Records.{IsRecord, channel_record, channel_records}
use Rattle.lgm_save.proofs.records.push_channels.Given as goal

abbrev pub invariant-loop-stored : goal.invariant-loop-stored
invariant-loop-stored l = record {
  items : l.records.items ++ map (λ stored. channel_record stored.channel) l.stored-iterator ≡ l.initial.records.items ++ channel_records l.map;
  lawful : AllByRecursion IsRecord l.initial.records.items → AllByRecursion IsRecord l.records.items;
  spelled : AllByRecursion (λ stored. IsAnnounce stored.channel.raw) l.stored-iterator;
}
