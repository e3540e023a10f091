use Rattle.std.proofs.Common.{append_assoc}
use Rattle.lgm_payer_state.specs.Payments.{invoice_bytes}
use Rattle.lgm_payer_state.specs.reading.PaymentsReading.{invoice_at}
use Rattle.lgm_payer_state.proofs.invoices.InvoiceStored.write.Goals as goal

pub returns : goal.returns
unfolding invoice_bytes invoice_at
returns c =
    let payee = c.in_ok-write.ensures in
    let amount = c.in_ok-write64.ensures in
    let secret = c.in_ok-write_fixed.ensures in
    let delta = c.in_ok-write16.ensures in
    let mpp = c.in_ok-write_flag.ensures in
    record {
      written = rw (mpp.written, delta.written, secret.written, amount.written, payee.written) (simp append_assoc);
      back = λ rest. simp (append_assoc, payee.back, amount.back, secret.back, delta.back, mpp.back);
    }
