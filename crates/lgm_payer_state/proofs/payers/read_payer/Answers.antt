use Rattle.std.proofs.Common.{inr, sym, ◌∙◌}
use Rattle.lgm_payer_state.specs.Payers.{payer_bytes}
use Rattle.lgm_payer_state.specs.reading.PayersReading.{payer_at}
use Rattle.lgm_payer_state.proofs.PayerLaws.{whole_read, whole_left, whole_exact}
use Rattle.lgm_payer_state.proofs.payers.read_payer.Goals as goal

pub returns-then-not-is_empty-clause-given : goal.returns-then-not-is_empty-clause-given
returns-then-not-is_empty-clause-given c =
    inr (whole_left payer_at c.args.bytes.now c.in_ok-payer.rest.now c.in_ok-payer.payer c.in_ok-payer.ensures.given
    (sym c.is_empty.ensures ∙ c.if-not-is_empty.true))

pub returns-clause-given : goal.returns-clause-given
returns-clause-given c =
    whole_read payer_at c.args.bytes.now c.in_ok-payer.rest.now c.in_ok-payer.payer c.in_ok-payer.ensures.given
    (sym c.is_empty.ensures ∙ c.if-not-is_empty.false)

pub returns-clause-exact : goal.returns-clause-exact
returns-clause-exact c =
    whole_exact c.args.bytes.now (payer_bytes c.in_ok-payer.payer) c.in_ok-payer.rest.now c.in_ok-payer.ensures.exact
    (sym c.is_empty.ensures ∙ c.if-not-is_empty.false)
