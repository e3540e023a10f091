use Rattle.std.proofs.Common.{append_assoc, refl}
use Rattle.lgm_payer_state.specs.Payers.{payer_bytes}
use Rattle.lgm_payer_state.specs.reading.PayersReading.{payer_at}
use Rattle.lgm_payer_state.proofs.payers.write_payer.Goals as goal

pub returns : goal.returns
unfolding payer_bytes payer_at
returns c =
    let point = c.in_ok-write.ensures in
    let point-written = rw c.point.ensures at point.written in
    let point-back = rw c.point.ensures at point.back in
    let begun = c.in_ok-write64.ensures in
    let begun-written = rw c.begun.ensures at begun.written in
    let begun-back = rw c.begun.ensures at begun.back in
    let sent = c.in_ok-write64-2.ensures in
    let sent-written = rw c.sent.ensures at sent.written in
    let sent-back = rw c.sent.ensures at sent.back in
    let settled = c.in_ok-write64-3.ensures in
    let settled-written = rw c.settled.ensures at settled.written in
    let settled-back = rw c.settled.ensures at settled.back in
    let payments = c.in_ok-write_all.ensures in
    let payments-written = rw c.payments.ensures at payments.written in
    let payments-back = rw c.payments.ensures at payments.back in
    let learnt = c.in_ok-write_learnt.ensures in
    let learnt-written = rw c.learnt.ensures at learnt.written in
    let learnt-back = rw c.learnt.ensures at learnt.back in
    record {
      written = rw (learnt-written, payments-written, settled-written, sent-written, begun-written, point-written) (simp append_assoc);
      back = λ rest. simp (append_assoc, point-back, begun-back, sent-back, settled-back, payments-back, learnt-back) refl;
    }
