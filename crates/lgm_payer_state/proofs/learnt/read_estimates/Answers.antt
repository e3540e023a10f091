use Rattle.std.proofs.Common.{◌∙◌, ◌++◌, List, ℕ, ap}
use Rattle.lgm_save.specs.Saved.{sealed}
use Rattle.lgm_save.proofs.LoadLaws.{if_ok_to}
use Rattle.lgm_payer_state.specs.Estimates.{learnt_bytes}
use Rattle.lgm_payer_state.specs.States.{estimates_opening}
use Rattle.lgm_payer_state.specs.reading.EstimatesReading.{learnt_at}
use Rattle.lgm_payer_state.proofs.StateLaws.{body_is, read_back, never_changed}
use Rattle.lgm_payer_state.proofs.learnt.read_estimates.Goals as goal

pub returns-clause-exact : goal.returns-clause-exact
returns-clause-exact c =
    let found = c.in-Some.ensures.some in
    let parts = rw c.opening.ensures at found in
    if_ok_to c.read_whole.result (λ learnt is. parts ∙ ap (λ (s : List ℕ). sealed (estimates_opening ++ s)) is) c.read_whole.ensures.exact

pub returns-clause-back : goal.returns-clause-back
returns-clause-back c state kept e =
    let found = c.in-Some.ensures.some in
    let parts = rw c.opening.ensures at found in
    read_back estimates_opening learnt_bytes learnt_at c.read_whole.result c.in-Some.body.now state c.read_whole.ensures.given kept.back
    (body_is estimates_opening learnt_bytes learnt_at c.args.bytes.now c.in-Some.body.now state parts e)

pub returns-clause-changed : goal.returns-clause-changed
returns-clause-changed c state changed =
    let found = c.in-Some.ensures.some in
    let parts = rw c.opening.ensures at found in
    never_changed estimates_opening learnt_bytes learnt_at c.read_whole.result c.args.bytes.now c.in-Some.body.now state parts changed
