-- The segments from which the encoding of a message is joined.
use Rattle.std.specs.Prelude.{ℕ, ◌<◌, ◌^◌, List}
use Rattle.std.specs.List.{flat_map, AllByRecursion}
use Rattle.std.specs.Int.{w8, w16, w32, w64, to_be_bytes}
use Rattle.lgm_gossip.specs.declared.segment.Segment.{Segment}
use Rattle.lgm_gossip.specs.declared.segment.Segment.TheVariants as segments
use Rattle.lgm_gossip.specs.Streams.{bigsize_bytes}
use Rattle.lgm_gossip.specs.TimestampList.{pair_bytes, PairFits}

-- the bytes of a segment
abbrev pub text : Segment → List ℕ
text (segments.Bytes bytes) = bytes.now
text (segments.Number8 n) = to_be_bytes w8 n
text (segments.Number16 n) = to_be_bytes w16 n
text (segments.Number32 n) = to_be_bytes w32 n
text (segments.Number64 n) = to_be_bytes w64 n
text (segments.Big n) = bigsize_bytes n
text (segments.Ids ids) = flat_map (to_be_bytes w64) ids.now
text (segments.Bigs ns) = flat_map bigsize_bytes ns.now
text (segments.Pairs pairs) = flat_map pair_bytes pairs.now

abbrev pub texts : List Segment → List ℕ
texts ps = flat_map text ps

-- its numbers fit their width
abbrev pub SegmentFits : Segment → Type 0
SegmentFits (segments.Bytes bytes) = Unit {0}
SegmentFits (segments.Number8 n) = n < 2 ^ 8
SegmentFits (segments.Number16 n) = n < 2 ^ 16
SegmentFits (segments.Number32 n) = n < 2 ^ 32
SegmentFits (segments.Number64 n) = n < 2 ^ 64
SegmentFits (segments.Big n) = n < 2 ^ 64
SegmentFits (segments.Ids ids) = AllByRecursion (λ id. id < 2 ^ 64) ids.now
SegmentFits (segments.Bigs ns) = AllByRecursion (λ n. n < 2 ^ 64) ns.now
SegmentFits (segments.Pairs pairs) = AllByRecursion PairFits pairs.now
