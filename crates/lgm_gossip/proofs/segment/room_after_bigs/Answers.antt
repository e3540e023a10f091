use Rattle.std.proofs.Common.{arith}
use Rattle.lgm_gossip.specs.Streams.{bigsize_bytes}
use Rattle.lgm_gossip.proofs.SegmentLaws.{front_len}
use Rattle.lgm_gossip.proofs.segment.room_after_bigs.Goals as goal

pub returns-in_err-left : goal.returns-in_err-left
returns-in_err-left c =
    let values = c.args.values.now in
    rw c.from_residual.ensures (omega (
      arith,
      front_len bigsize_bytes values c.loop-value.value-index 0 c.loop-value-test.true,
      c.bigsize_len.ensures,
      c.in_err-left.ensures,
      c.loop-value.invariant,
    ))
