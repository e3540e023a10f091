use Rattle.std.proofs.Common.{inr, sym, ◌∙◌}
use Rattle.lgm_payer_state.specs.Estimates.{learnt_bytes}
use Rattle.lgm_payer_state.specs.reading.EstimatesReading.{learnt_at}
use Rattle.lgm_payer_state.proofs.PayerLaws.{whole_read, whole_left, whole_exact}
use Rattle.lgm_payer_state.proofs.learnt.read_whole.Goals as goal

pub returns-then-not-is_empty-clause-given : goal.returns-then-not-is_empty-clause-given
returns-then-not-is_empty-clause-given c =
    inr (whole_left learnt_at c.args.bytes.now c.in_ok-learnt.rest.now c.in_ok-learnt.learnt c.in_ok-learnt.ensures.given
    (sym c.is_empty.ensures ∙ c.if-not-is_empty.true))

pub returns-clause-given : goal.returns-clause-given
returns-clause-given c =
    whole_read learnt_at c.args.bytes.now c.in_ok-learnt.rest.now c.in_ok-learnt.learnt c.in_ok-learnt.ensures.given
    (sym c.is_empty.ensures ∙ c.if-not-is_empty.false)

pub returns-clause-exact : goal.returns-clause-exact
returns-clause-exact c =
    whole_exact c.args.bytes.now (learnt_bytes c.in_ok-learnt.learnt) c.in_ok-learnt.rest.now c.in_ok-learnt.ensures.exact
    (sym c.is_empty.ensures ∙ c.if-not-is_empty.false)
