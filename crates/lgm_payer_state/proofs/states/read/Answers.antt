use Rattle.std.proofs.Common.{◌∙◌, ◌++◌, List, ℕ, ap}
use Rattle.lgm_save.specs.Saved.{sealed}
use Rattle.lgm_save.proofs.LoadLaws.{if_ok_to}
use Rattle.lgm_payer_state.specs.Payers.{payer_bytes}
use Rattle.lgm_payer_state.specs.States.{opening}
use Rattle.lgm_payer_state.specs.reading.PayersReading.{payer_at}
use Rattle.lgm_payer_state.proofs.StateLaws.{body_is, read_back, never_changed}
use Rattle.lgm_payer_state.proofs.states.read.Goals as goal

pub returns-clause-exact : goal.returns-clause-exact
returns-clause-exact c =
    let found = c.in-Some.ensures.some in
    let parts = rw c.opening.ensures at found in
    if_ok_to c.read_payer.result (λ payer is. parts ∙ ap (λ (s : List ℕ). sealed (opening ++ s)) is) c.read_payer.ensures.exact

pub returns-clause-back : goal.returns-clause-back
returns-clause-back c state kept e =
    let found = c.in-Some.ensures.some in
    let parts = rw c.opening.ensures at found in
    read_back opening payer_bytes payer_at c.read_payer.result c.in-Some.body.now state c.read_payer.ensures.given kept.back
    (body_is opening payer_bytes payer_at c.args.bytes.now c.in-Some.body.now state parts e)

pub returns-clause-changed : goal.returns-clause-changed
returns-clause-changed c state changed =
    let found = c.in-Some.ensures.some in
    let parts = rw c.opening.ensures at found in
    never_changed opening payer_bytes payer_at c.read_payer.result c.args.bytes.now c.in-Some.body.now state parts changed
