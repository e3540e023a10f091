use Rattle.std.proofs.Common.{append_assoc, sym, ◌∙◌}
use Rattle.lgm_payer.specs.Payments.{PaymentState}
use Rattle.lgm_payer_state.specs.Payments.{payment_bytes}
use Rattle.lgm_payer_state.proofs.PaymentLaws.{restored_is}
use Rattle.lgm_payer_state.proofs.payments.PaymentStored.read.Goals as goal

pub returns-in-Some-clause-exact : goal.returns-in-Some-clause-exact
unfolding payment_bytes
returns-in-Some-clause-exact c =
    let asked : PaymentState = record {
      number = c.in_ok-number.number;
      payer = c.in_ok-payer.payer;
      invoice = c.in_ok-invoice.invoice;
      hints = c.in_ok-hints.hints.items;
      arrival = c.in_ok-arrival.arrival;
      bounds = c.in_ok-bounds.bounds;
      stage = c.in_ok-stage.stage;
      parts = c.in_ok-parts.parts.items;
    } in
    let payment = restored_is asked c.in-Some.payment (sym c.restored-restored.ensures ∙ c.in-Some.is) in
    rw (
      payment,
      c.in_ok-number.ensures.exact,
      c.in_ok-payer.ensures.exact,
      c.in_ok-invoice.ensures.exact,
      c.in_ok-hints.ensures.exact,
      c.in_ok-arrival.ensures.exact,
      c.in_ok-bounds.ensures.exact,
      c.in_ok-stage.ensures.exact,
      c.in_ok-parts.ensures.exact,
    ) (simp append_assoc)
