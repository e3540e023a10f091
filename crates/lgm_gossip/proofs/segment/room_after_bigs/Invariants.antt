use Rattle.std.proofs.Common.{◌≡◌, ◌+◌, length, take}
use Rattle.std.specs.List.{flat_map}
use Rattle.lgm_gossip.specs.Streams.{bigsize_bytes}
use Rattle.lgm_gossip.proofs.segment.room_after_bigs.Given as goal

abbrev pub invariant-loop-value : goal.invariant-loop-value
invariant-loop-value l = l.left + length (flat_map bigsize_bytes (take l.value-index l.values)) ≡ l.room
