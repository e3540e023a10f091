use Rattle.std.proofs.Common.{append_assoc}
use Rattle.lgm_payer_state.specs.Edges.{hop_bytes}
use Rattle.lgm_payer_state.specs.reading.EdgesReading.{hop_at}
use Rattle.lgm_payer_state.proofs.edges.HopStored.write.Goals as goal

pub returns : goal.returns
unfolding hop_bytes hop_at
returns c =
    let scid = c.in_ok-write64.ensures in
    let scid-written = rw c.to_u64.ensures at scid.written in
    let scid-back = rw c.to_u64.ensures at scid.back in
    let from = c.in_ok-write.ensures in
    let to = c.in_ok-write-2.ensures in
    let amount = c.in_ok-write64-2.ensures in
    let expiry = c.in_ok-write32.ensures in
    record {
      written = rw (expiry.written, amount.written, to.written, from.written, scid-written) (simp append_assoc);
      back = λ rest. simp (append_assoc, scid-back, from.back, to.back, amount.back, expiry.back);
    }
