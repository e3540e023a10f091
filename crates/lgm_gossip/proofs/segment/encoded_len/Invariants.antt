use Rattle.std.proofs.Common.{◌≡◌, ◌+◌, length, take}
use Rattle.lgm_gossip.specs.inner.Segment.{texts}
use Rattle.lgm_gossip.proofs.segment.encoded_len.Given as goal

abbrev pub invariant-loop-segment : goal.invariant-loop-segment
invariant-loop-segment l = l.room + length (texts (take l.segment-index l.segments)) ≡ 65535
