use Rattle.std.proofs.Common.{◌≡◌, ◌++◌, map}
use Rattle.lgm_store.specs.inner.ChannelTable.{id_in}
use Rattle.lgm_store.specs.ChannelInfo.{timestamps_in}
use Rattle.lgm_query.proofs.range_reply.with_timestamps.Given as goal

-- what was appended and what is left make the whole
abbrev pub invariant-loop-stored : goal.invariant-loop-stored
invariant-loop-stored l = record {
  ids : l.ids.items ++ map id_in l.stored-iterator ≡ map id_in l.initial.stored-iterator;
  times : l.times.items ++ map timestamps_in l.stored-iterator ≡ map timestamps_in l.initial.stored-iterator;
}
