-- The check of an item apart from its turn.
use Rattle.std.proofs.Common.{◌≡◌, inl, inr, ℕ, Some, Result, Ok, Err, refl, sym, ap, ◌∙◌}
use Rattle.std.specs.Prelude.{OnOk, OnErr}
use Rattle.std.specs.Option.{option_map}
use Rattle.std.specs.Result.{result_err}
use Rattle.lgm_wire.specs.reading.Reading.{◌>>=◌, Gives}
use Rattle.lgm_wire.specs.declared.chain_hash.ChainHash.{ChainHash}
use Rattle.lgm_check.specs.declared.row.Checked.{Checked}
use Rattle.lgm_check.specs.declared.refusal.Refusal.{Refusal}
use Rattle.lgm_check.specs.declared.refusal.Refusal.TheVariants as refusals
use Rattle.lgm_check.specs.Precheck.{checked_of}
use Rattle.lgm_store.specs.declared.op.Op.{Op}
use Rattle.lgm_store.specs.Rows.{Rows}
use Rattle.lgm_store.specs.Admission.{admitted}
use Rattle.lgm_script.specs.declared.grammar.item.Item.{Item}
use Rattle.lgm_script.specs.declared.grammar.item.Item.TheVariants.{Gossip, Close}
use Rattle.lgm_script.specs.declared.grammar.line_form.LineKind.TheVariants as kinds
use Rattle.lgm_script.specs.declared.grammar.command.Command.{Command}
use Rattle.lgm_script.specs.declared.grammar.command.Command.TheVariants as requests
use Rattle.lgm_script.specs.Command.{item_in}
use Rattle.lgm_script.specs.Groups.{IsOfKind}
use Rattle.lgm_answers.specs.Answer.{outcome_text}
use Rattle.lgm_answers.specs.Outcomes.{outcome_of}
use Rattle.lgm_answers.specs.Script.{ScriptState, text_for}
use Rattle.lgm_run.specs.declared.checked_item.CheckedItem.{CheckedItem}
use Rattle.lgm_run.specs.declared.checked_item.CheckedItem.TheVariants.{Message}
use Rattle.lgm_run.specs.inner.CheckedItem.{checked_item, IsItemOf, admitted_item, outcome_on, settled}
use Rattle.lgm_run.specs.inner.Steps.{state_behind, state_after}

-- the outcome of an item is that of its check in its turn
outcome_is : (chain : ChainHash) (rows : Rows) (item : Item) → outcome_on rows (checked_item chain item) ≡ outcome_of chain rows item
unfolding outcome_of admitted_item
outcome_is chain rows (Gossip bytes evidence) = by (checked_of chain bytes evidence)
  where
    by : (checked : Result Checked Refusal)
        → outcome_on rows (checked >>= λ made. Ok (Message made)) ≡ (checked >>= λ made. admitted rows made)
    by (Ok checked) = refl
    by (Err refusal) = refl
outcome_is chain rows (Close id) = refl

-- the item that the line of one offers, if it isn't malformed
item_offered : (chain : ChainHash) (request : Command) (checked : Result CheckedItem Refusal) → IsOfKind kinds.Item request
    → Some checked ≡ option_map (checked_item chain) (item_in request)
    → (item : Item) × (request ≡ requests.Offer item) × (checked ≡ checked_item chain item)
item_offered chain requests.Bad checked kind is = absurd cc
item_offered chain (requests.Offer item) checked kind is = (item, refl, cc)
item_offered chain _ checked kind is = absurd kind

-- a check that ran out of memory isn't offered
ran_out : (rows : Rows) (checked : Result CheckedItem Refusal) (result : Result (Unit {0}) Refusal)
    → checked ≡ Err refusals.NoMemory → Gives refusals.NoMemory (λ done. done) result (settled (outcome_on rows checked))
    → result ≡ Err refusals.NoMemory
ran_out rows checked (Ok done) none is = absurd (let own = rw none at is in cc)
ran_out rows checked (Err refusal) none (inl ended) = ap (λ r. Err r) ended
ran_out rows checked (Err refusal) none (inr is) = let own = rw none at is in sym own

-- unless memory ran out, the state after its offer is that after the line, and the outcome is the line's
pub turn_of : (chain : ChainHash) (state new : ScriptState) (request : Command) (checked : Result CheckedItem Refusal)
    (result : Result (Unit {0}) Refusal) → (result ≡ Err refusals.NoMemory → ⊥) → IsItemOf chain request (Some checked)
    → Gives refusals.NoMemory (λ done. done) result (settled (outcome_on state.rows checked))
    → OnOk result (new ≡ state_behind state (outcome_on state.rows checked)) → OnErr result (new ≡ state)
    → (new ≡ state_after chain state request)
    × ((number : ℕ) → outcome_text number (result_err result) ≡ text_for chain number state request)
turn_of chain state new request checked result other is gives accepted refused = elim is.check [
  | inl same ↦ let offered = item_offered chain request checked is.kind same in
      let whole : outcome_on state.rows checked ≡ outcome_of chain state.rows offered.0 =
      ap (outcome_on state.rows) offered.2 ∙ outcome_is chain state.rows offered.0 in
      rw offered.1
      (by result (outcome_of chain state.rows offered.0) other (rw whole at gives) (rw whole at accepted) refused)
  | inr none ↦ let own : checked ≡ Err refusals.NoMemory = cc in absurd (other (ran_out state.rows checked result own gives))
]
  where
    by : (result : Result (Unit {0}) Refusal) (outcome : Result Op Refusal) → (result ≡ Err refusals.NoMemory → ⊥)
        → Gives refusals.NoMemory (λ done. done) result (settled outcome)
        → OnOk result (new ≡ state_behind state outcome) → OnErr result (new ≡ state)
        → (new ≡ state_behind state outcome)
        × ((number : ℕ) → outcome_text number (result_err result) ≡ outcome_text number (result_err outcome))
    by (Ok done) (Ok op) other is accepted refused = (accepted, λ number. refl)
    by (Ok done) (Err refusal) other is accepted refused = absurd cc
    by (Err refusal) outcome other (inl none) accepted refused = absurd (other (ap (λ r. Err r) none))
    by (Err refusal) (Ok op) other (inr is) accepted refused = absurd cc
    by (Err refusal) (Err own) other (inr is) accepted refused =
        (refused, λ number. ap (λ r. outcome_text number (result_err r)) (sym is))
