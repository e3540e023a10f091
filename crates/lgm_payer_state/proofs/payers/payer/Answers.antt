use Rattle.std.proofs.Common.{append_assoc, refl}
use Rattle.lgm_payer_state.specs.Payers.{payer_bytes}
use Rattle.lgm_payer_state.specs.reading.PayersReading.{payer_at}
use Rattle.lgm_payer_state.proofs.payers.payer.Goals as goal

pub returns-clause-given : goal.returns-clause-given
unfolding payer_at
returns-clause-given c =
    rw (c.in_ok-point.ensures.given, c.in_ok-begun.ensures.given, c.in_ok-sent.ensures.given, c.in_ok-settled.ensures.given, c.in_ok-payments.ensures.given, c.in_ok-learnt.ensures.given, c.restored-payer.ensures) refl

pub returns-clause-exact : goal.returns-clause-exact
unfolding payer_bytes
returns-clause-exact c =
    rw (c.restored-payer.ensures, c.in_ok-point.ensures.exact, c.in_ok-begun.ensures.exact, c.in_ok-sent.ensures.exact, c.in_ok-settled.ensures.exact, c.in_ok-payments.ensures.exact, c.in_ok-learnt.ensures.exact) (simp append_assoc)
