-- A payer that is all of the bytes.
use Rattle.std.proofs.Common.{◌≡◌, ◌∙◌, ◌==◌, true, false, List, [], ◌∷◌, ◌++◌, ℕ, length, Ok, Err, refl, ap, append-nil}
use Rattle.std.proofs.lemmas.Bool.{eqb-true}
use Rattle.std.proofs.lemmas.List.{nil_from_length}
use Rattle.lgm_payer_state.specs.declared.state_fault.StateFault.TheVariants.{Damaged}
use Rattle.lgm_payer_state.specs.reading.Reading.{Reader}
use Rattle.lgm_payer_state.specs.reading.PayersReading.{alone, only, whole_at}

none_left : (rest : List ℕ) → (length rest == 0) ≡ true → rest ≡ []
none_left rest e = nil_from_length rest (eqb-true (length rest) 0 e)

-- nothing is behind a value
pub whole_read : {A : Type 0} (read : Reader A) (bytes rest : List ℕ) (x : A) → read bytes ≡ Ok (x, rest) → (length rest == 0) ≡ true
    → whole_at read bytes ≡ Ok x
whole_read {A} read bytes rest x e none = ap alone e ∙ ap (λ (s : List ℕ). only x s) (none_left rest none)

pub whole_exact : (bytes text rest : List ℕ) → bytes ≡ text ++ rest → (length rest == 0) ≡ true → bytes ≡ text
whole_exact bytes text rest e none = e ∙ ap (λ (s : List ℕ). text ++ s) (none_left rest none) ∙ append-nil text

-- something is
pub whole_left : {A : Type 0} (read : Reader A) (bytes rest : List ℕ) (x : A) → read bytes ≡ Ok (x, rest) → (length rest == 0) ≡ false
    → whole_at read bytes ≡ Err Damaged
whole_left {A} read bytes rest x e some = ap alone e ∙ left rest some
  where
    left : (s : List ℕ) → (length s == 0) ≡ false → only x s ≡ Err Damaged
    left [] bad = absurd cc
    left (byte ∷ bytes) some = refl
