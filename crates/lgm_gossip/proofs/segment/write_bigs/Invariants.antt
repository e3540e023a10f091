use Rattle.std.proofs.Common.{◌≡◌, ◌<◌, ◌^◌, ◌++◌, take}
use Rattle.std.specs.List.{flat_map, AllByRecursion}
use Rattle.lgm_gossip.specs.Streams.{bigsize_bytes}
use Rattle.lgm_gossip.proofs.segment.write_bigs.Given as goal

abbrev pub invariant-loop-value : goal.invariant-loop-value
invariant-loop-value l = record {
  text : l.out.items ≡ l.initial.out.items ++ flat_map bigsize_bytes (take l.value-index l.values);
  fits : AllByRecursion (λ n. n < 2 ^ 64) (take l.value-index l.values);
}
