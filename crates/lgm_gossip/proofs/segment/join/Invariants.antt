use Rattle.std.proofs.Common.{◌≡◌, take}
use Rattle.std.specs.List.{AllByRecursion}
use Rattle.lgm_gossip.specs.inner.Segment.{texts, SegmentFits}
use Rattle.lgm_gossip.proofs.segment.join.Given as goal

abbrev pub invariant-loop-segment : goal.invariant-loop-segment
invariant-loop-segment l = record {
  text : l.out.items ≡ texts (take l.segment-index l.segments);
  fits : AllByRecursion SegmentFits (take l.segment-index l.segments);
}
