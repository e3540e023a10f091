use Rattle.std.proofs.Common.{◌≡◌, ◌++◌, take}
use Rattle.std.specs.List.{flat_map, AllByRecursion}
use Rattle.lgm_gossip.specs.TimestampList.{pair_bytes, PairFits}
use Rattle.lgm_gossip.proofs.segment.write_pairs.Given as goal

abbrev pub invariant-loop-pair : goal.invariant-loop-pair
invariant-loop-pair l = record {
  text : l.out.items ≡ l.initial.out.items ++ flat_map pair_bytes (take l.pair-index l.pairs);
  fits : AllByRecursion PairFits (take l.pair-index l.pairs);
}
