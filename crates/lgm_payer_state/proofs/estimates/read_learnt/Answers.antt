use Rattle.std.proofs.Common.{refl}
use Rattle.lgm_payer_state.specs.Estimates.{learnt_bytes}
use Rattle.lgm_payer_state.specs.reading.EstimatesReading.{learnt_at}
use Rattle.lgm_payer_state.proofs.EstimateLaws.{estimates_are}
use Rattle.lgm_payer_state.proofs.estimates.read_learnt.Goals as goal

pub returns-clause-given : goal.returns-clause-given
unfolding learnt_at
returns-clause-given c =
    let sets = c.in_ok-learnt.ensures in
    let learnt = rw c.deref.ensures.value at sets in
    rw (c.in_ok-entries.ensures.given, learnt) refl

pub returns-clause-exact : goal.returns-clause-exact
unfolding learnt_bytes
returns-clause-exact c =
    let sets = c.in_ok-learnt.ensures in
    let learnt = estimates_are c.in_ok-entries.entries.items c.in_ok-learnt.learnt (rw c.deref.ensures.value at sets) in
    rw (learnt, c.in_ok-entries.ensures.exact) refl
