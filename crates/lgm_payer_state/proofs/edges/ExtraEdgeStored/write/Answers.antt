use Rattle.std.proofs.Common.{append_assoc}
use Rattle.lgm_payer_state.specs.Edges.{extra_edge_bytes}
use Rattle.lgm_payer_state.specs.reading.EdgesReading.{extra_edge_at}
use Rattle.lgm_payer_state.proofs.edges.ExtraEdgeStored.write.Goals as goal

pub returns : goal.returns
unfolding extra_edge_bytes extra_edge_at
returns c =
    let scid = c.in_ok-write64.ensures in
    let scid-written = rw c.to_u64.ensures at scid.written in
    let scid-back = rw c.to_u64.ensures at scid.back in
    let from = c.in_ok-write.ensures in
    let to = c.in_ok-write-2.ensures in
    let base = c.in_ok-write32.ensures in
    let millionths = c.in_ok-write32-2.ensures in
    let delta = c.in_ok-write16.ensures in
    let min = c.in_ok-write64-2.ensures in
    let max = c.in_ok-write64-3.ensures in
    record {
      written = rw (max.written, min.written, delta.written, millionths.written, base.written, to.written, from.written, scid-written) (simp append_assoc);
      back = λ rest. simp (append_assoc, scid-back, from.back, to.back, base.back, millionths.back, delta.back, min.back, max.back);
    }
