use Rattle.std.proofs.Common.{append_assoc}
use Rattle.lgm_payer_state.specs.Payments.{bounds_bytes}
use Rattle.lgm_payer_state.specs.reading.PaymentsReading.{bounds_at}
use Rattle.lgm_payer_state.proofs.invoices.BoundsStored.write.Goals as goal

pub returns : goal.returns
unfolding bounds_bytes bounds_at
returns c =
    let fee = c.in_ok-write64.ensures in
    let tries = c.in_ok-write64-2.ensures in
    let parts = c.in_ok-write64-3.ensures in
    let part = c.in_ok-write64-4.ensures in
    let blocks = c.in_ok-write16.ensures in
    record {
      written = rw (blocks.written, part.written, parts.written, tries.written, fee.written) (simp append_assoc);
      back = λ rest. simp (append_assoc, fee.back, tries.back, parts.back, part.back, blocks.back);
    }
