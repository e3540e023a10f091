use Rattle.std.proofs.Common.{◌≡◌, length, get_or, refl, ap, arith}
use Rattle.lgm_gossip.specs.inner.Segment.{text}
use Rattle.lgm_gossip.proofs.SegmentLaws.{front_len}
use Rattle.lgm_gossip.proofs.segment.encoded_len.Goals as goal

pub returns-in_default : goal.returns-in_default
returns-in_default c =
    let segment = c.segment-item.result in
    let len : length (text segment) ≡ length (text (get_or c.args.segments.now c.loop-segment.segment-index segment)) = ap (λ p. length (text p)) c.segment-item.is in (
      refl,
      omega (
        arith,
        front_len text c.args.segments.now c.loop-segment.segment-index segment c.loop-segment-test.true,
        len,
        c.in_default.ensures,
        c.loop-segment.invariant,
      ),
    )
