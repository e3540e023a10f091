use Rattle.std.proofs.Common.{◌≡◌, ◌<◌, ◌^◌, ◌++◌, take}
use Rattle.std.specs.List.{flat_map, AllByRecursion}
use Rattle.std.specs.Int.{w64, to_be_bytes}
use Rattle.lgm_gossip.proofs.segment.write_ids.Given as goal

abbrev pub invariant-loop-id : goal.invariant-loop-id
invariant-loop-id l = record {
  text : l.out.items ≡ l.initial.out.items ++ flat_map (to_be_bytes w64) (take l.id-index l.ids);
  fits : AllByRecursion (λ id. id < 2 ^ 64) (take l.id-index l.ids);
}
