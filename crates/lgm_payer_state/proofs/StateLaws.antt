-- The bytes of a state are read as it, and no others.
use Rattle.std.proofs.Common.{◌≡◌, ◌∙◌, List, [], ◌++◌, ℕ, Result, Ok, Err, refl, sym, ap, inl, inr, append-nil}
use Rattle.std.specs.Prelude.{IfOk, MatchResult}
use Rattle.lgm_wire.specs.reading.Reading.{Gives}
use Rattle.lgm_save.specs.Saved.{sealed}
use Rattle.lgm_save.specs.Changed.{IsChangedAtOne}
use Rattle.lgm_save.proofs.NumberLaws.{rest_same}
use Rattle.lgm_save.proofs.SavedLaws.{sealed_same}
use Rattle.lgm_save.proofs.ChangeLaws.{changed_not_sealed}
use Rattle.lgm_payer_state.specs.Written.{IsBack}
use Rattle.lgm_payer_state.specs.declared.state_fault.StateFault.{StateFault}
use Rattle.lgm_payer_state.specs.declared.state_fault.StateFault.TheVariants.{NoMemory}
use Rattle.lgm_payer_state.specs.reading.Reading.{Reader}
use Rattle.lgm_payer_state.specs.reading.PayersReading.{alone, whole_at}

-- a state of a kind, whose bytes begin with an opening
module _ {S : Type 0} (head : List ℕ) (text : S → List ℕ) (read_at : Reader S) where
  -- the body of a state's bytes
  pub body_is : (bytes body : List ℕ) (state : S) → bytes ≡ sealed (head ++ body) → bytes ≡ sealed (head ++ text state)
      → body ≡ text state
  body_is bytes body state e f =
      rest_same head head body (text state) refl (sealed_same (head ++ body) (head ++ text state) (sym e ∙ f))

  whole_back : (state : S) → IsBack text read_at state → whole_at read_at (text state) ≡ Ok state
  whole_back state kept =
      ap (λ (s : List ℕ). whole_at read_at s) (sym (append-nil (text state))) ∙ ap alone (kept [])

  -- what a reading gives of a state's bytes
  pub read_back : (result : Result S StateFault) (body : List ℕ) (state : S)
      → Gives NoMemory (λ found. found) result (whole_at read_at body) → IsBack text read_at state → body ≡ text state
      → MatchResult result (λ found. found ≡ state) (λ fault. fault ≡ NoMemory)
  read_back (Ok found) body state given kept e =
      let same = sym given ∙ ap (λ (s : List ℕ). whole_at read_at s) e ∙ whole_back state kept in cc
  read_back (Err fault) body state given kept e =
      elim given [
        | inl none ↦ none
        | inr bad ↦ let same = sym bad ∙ ap (λ (s : List ℕ). whole_at read_at s) e ∙ whole_back state kept in absurd cc
      ]

  -- what was read, of bytes of which one was changed
  pub never_changed : (result : Result S StateFault) (bytes body : List ℕ) (state : S) → bytes ≡ sealed (head ++ body)
      → IsChangedAtOne (sealed (head ++ text state)) bytes → IfOk result (λ _. ⊥)
  never_changed result bytes body state e changed =
      absurd (changed_not_sealed (head ++ text state) bytes (head ++ body) changed e)
