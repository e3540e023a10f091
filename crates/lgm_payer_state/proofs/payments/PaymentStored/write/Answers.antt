use Rattle.std.proofs.Common.{append_assoc, Option, ap}
use Rattle.lgm_payer.specs.Payments.{PaymentState}
use Rattle.lgm_payer_state.specs.Payments.{payment_bytes}
use Rattle.lgm_payer_state.specs.reading.PaymentsReading.{payment_at, payment_of}
use Rattle.lgm_payer_state.specs.reading.Reading.{made_of}
use Rattle.lgm_payer_state.proofs.payments.PaymentStored.write.Goals as goal

pub returns : goal.returns
unfolding payment_bytes payment_at
returns c =
    let number = c.in_ok-write64.ensures in
    let number-written = rw c.number.ensures at number.written in
    let number-back = rw c.number.ensures at number.back in
    let payer = c.in_ok-write.ensures in
    let payer-written = rw c.payer.ensures at payer.written in
    let payer-back = rw c.payer.ensures at payer.back in
    let invoice = c.in_ok-write-2.ensures in
    let invoice-written = rw c.invoice.ensures at invoice.written in
    let invoice-back = rw c.invoice.ensures at invoice.back in
    let hints = c.in_ok-write_all.ensures in
    let hints-written = rw c.hints.ensures at hints.written in
    let hints-back = rw c.hints.ensures at hints.back in
    let arrival = c.in_ok-write-3.ensures in
    let arrival-written = rw c.arrival.ensures at arrival.written in
    let arrival-back = rw c.arrival.ensures at arrival.back in
    let bounds = c.in_ok-write-4.ensures in
    let bounds-written = rw c.bounds.ensures at bounds.written in
    let bounds-back = rw c.bounds.ensures at bounds.back in
    let stage = c.in_ok-write-5.ensures in
    let stage-written = rw c.stage.ensures at stage.written in
    let stage-back = rw c.stage.ensures at stage.back in
    let parts = c.in_ok-write_all-2.ensures in
    let parts-written = rw c.parts.ensures at parts.written in
    let parts-back = rw c.parts.ensures at parts.back in
    record {
      written = rw (parts-written, stage-written, bounds-written, arrival-written, hints-written, invoice-written, payer-written, number-written) (simp append_assoc);
      back = λ rest. simp (append_assoc, number-back, payer-back, invoice-back, hints-back, arrival-back, bounds-back, stage-back, parts-back)
          (ap (λ (r : Option PaymentState). made_of (payment_of r) rest) c.can_be_restored.ensures);
    }
