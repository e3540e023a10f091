-- The clauses of read_bigsize, and the law that no encoding is a prefix of another, as facts about lists.
use Rattle.std.proofs.Common.{◌≡◌, ℕ, ◌+◌, ◌-◌, ◌<◌, ◌≤◌, ◌⊎◌, ◌↔◌, List, ◌++◌, length, take, drop}
use Rattle.std.proofs.Common.{Result, Ok, Err, refl, sym, ap, subst, ◌∙◌, arith, inl, inr}
use Rattle.std.specs.Prelude.{IfErr}
use Rattle.std.proofs.lemmas.List.{take_at, take-append-drop, length-append, length-drop}
use Rattle.lgm_wire.proofs.ReadingLaws.{bind_ok, ok_is}
use Rattle.lgm_wire.specs.declared.fault.WireFault.{WireFault}
use Rattle.lgm_wire.specs.declared.fault.WireFault.TheVariants.{Cut, NotMinimal}
use Rattle.lgm_wire.specs.BigSize.{bigsize_bytes, IsBigSize, form_len, form_value}
use Rattle.lgm_wire.specs.reading.BigSizeReading.{bigsize_at, bigsize_with_len}
use Rattle.lgm_wire.proofs.Bytes.{IsBytes}
use Rattle.lgm_wire.proofs.BigSizeLaws.{bigsize_spelled, bigsize_at-bigsize_bytes, cut, small, found, outcome}

-- what follows a number has fewer bytes
pub shorter : (bytes rest : List ℕ) (v : ℕ) → IsBytes bytes → bigsize_at bytes ≡ Ok (v, rest) → length rest ≤ length bytes
shorter bytes rest v fits e =
    let parts = (bigsize_spelled bytes v rest fits e).parts in
    omega (arith, ap length parts, length-append (bigsize_bytes v) rest)

-- a number and its length, if and only if that many bytes encode it
bigsize_with_len-value : (bytes : List ℕ) → IsBytes bytes → (v n : ℕ)
    → (bigsize_with_len bytes ≡ Ok (v, n)) ↔ ((n ≤ length bytes) × IsBigSize v (take n bytes))
bigsize_with_len-value bytes fits v n = (
  λ e.
      let s = bind_ok (bigsize_at bytes) (λ x. Ok (x.0, length bytes - length x.1)) (v, n) e in
      let t = bigsize_spelled bytes s.0.0 s.0.1 fits s.1 in
      let same = ok_is (s.0.0, length bytes - length s.0.1) (v, n) s.2 in
      let v-is : s.0.0 ≡ v = ap (λ (p : ℕ × ℕ). p.0) same in
      let n-is : length bytes - length s.0.1 ≡ n = ap (λ (p : ℕ × ℕ). p.1) same in
      let total : length bytes ≡ length (bigsize_bytes s.0.0) + length s.0.1 = ap length t.parts ∙ length-append (bigsize_bytes s.0.0) s.0.1 in
      let len : length (bigsize_bytes s.0.0) ≡ n = omega (arith, total, n-is) in
      (omega arith, (rw (← v-is) t.fits, ap (take n) t.parts ∙ take_at (bigsize_bytes s.0.0) s.0.1 n len ∙ ap bigsize_bytes v-is)),
  λ h.
      let parts : bigsize_bytes v ++ drop n bytes ≡ bytes = rw (← h.1.1) (take-append-drop n bytes) in
      let read : bigsize_at bytes ≡ Ok (v, drop n bytes) = ap bigsize_at (sym parts) ∙ bigsize_at-bigsize_bytes v (drop n bytes) h.1.0 in
      let size : length bytes - length (drop n bytes) ≡ n = omega (arith, h.0, length-drop n bytes) in
      rw (read, size) refl,
)

-- the outcome with the number of bytes is that of the reading
abbrev failed : WireFault → Result (ℕ × ℕ) WireFault
failed e = Err e

bigsize_with_len-err : (bytes : List ℕ) (e : WireFault) → bigsize_at bytes ≡ Err e → bigsize_with_len bytes ≡ failed e
bigsize_with_len-err bytes e h = rw h refl

bigsize_with_len-ok : (bytes : List ℕ) (x : ℕ × List ℕ) → bigsize_at bytes ≡ Ok x → bigsize_with_len bytes ≡ Ok (x.0, length bytes - length x.1)
bigsize_with_len-ok bytes x h = rw h refl

-- each fault exactly in its case, and no other
bigsize_with_len-cut : (bytes : List ℕ) → IsBytes bytes → (bigsize_with_len bytes ≡ Err Cut) ↔ (length bytes < form_len bytes)
bigsize_with_len-cut bytes fits =
    elim (outcome bytes fits) [
      | cut lt e ↦ (λ _. lt, λ _. bigsize_with_len-err bytes Cut e)
      | small le lt e ↦ (λ h. let f = bigsize_with_len-err bytes NotMinimal e in absurd cc, λ h. absurd (omega arith))
      | found le ge x e ↦ (λ h. let f = bigsize_with_len-ok bytes x e in absurd cc, λ h. absurd (omega arith))
    ]

bigsize_with_len-not_minimal : (bytes : List ℕ) → IsBytes bytes → (bigsize_with_len bytes ≡ Err NotMinimal) ↔
    ((form_len bytes ≤ length bytes) × (length (bigsize_bytes (form_value bytes)) < form_len bytes))
bigsize_with_len-not_minimal bytes fits =
    elim (outcome bytes fits) [
      | cut lt e ↦ (λ h. let f = bigsize_with_len-err bytes Cut e in absurd cc, λ h. absurd (omega (arith, lt, h.0)))
      | small le lt e ↦ (λ _. (le, lt), λ _. bigsize_with_len-err bytes NotMinimal e)
      | found le ge x e ↦ (λ h. let f = bigsize_with_len-ok bytes x e in absurd cc, λ h. absurd (omega (arith, ge, h.1)))
    ]

bigsize_with_len-faults : (bytes : List ℕ) → IsBytes bytes → IfErr (bigsize_with_len bytes) (λ e. (e ≡ Cut) ⊎ (e ≡ NotMinimal))
bigsize_with_len-faults bytes fits =
    elim (outcome bytes fits) [
      | cut lt e ↦ rw (bigsize_with_len-err bytes Cut e) (inl refl)
      | small le lt e ↦ rw (bigsize_with_len-err bytes NotMinimal e) (inr refl)
      | found le ge x e ↦ rw (bigsize_with_len-ok bytes x e) tt
    ]

-- what the contract says of a result, clause by clause
pub record Meets (bytes : List ℕ) (result : Result (ℕ × ℕ) WireFault) : Type 0 where
  pub value : (v n : ℕ) → (result ≡ Ok (v, n)) ↔ ((n ≤ length bytes) × IsBigSize v (take n bytes))
  pub cut : (result ≡ Err Cut) ↔ (length bytes < form_len bytes)
  pub not_minimal : (result ≡ Err NotMinimal) ↔ ((form_len bytes ≤ length bytes) × (length (bigsize_bytes (form_value bytes)) < form_len bytes))
  pub faults : IfErr result (λ e. (e ≡ Cut) ⊎ (e ≡ NotMinimal))

-- the result of the reading satisfies them all
pub meets : (bytes : List ℕ) (result : Result (ℕ × ℕ) WireFault) → IsBytes bytes → result ≡ bigsize_with_len bytes → Meets bytes result
meets bytes result fits exact =
    subst (λ (r : Result (ℕ × ℕ) WireFault). Meets bytes r) (sym exact) (record {
      value = bigsize_with_len-value bytes fits;
      cut = bigsize_with_len-cut bytes fits;
      not_minimal = bigsize_with_len-not_minimal bytes fits;
      faults = bigsize_with_len-faults bytes fits;
    })

-- no encoding is a prefix of another one
pub same_front : (m n : ℕ) (a b x y : List ℕ) → IsBigSize m a → IsBigSize n b → a ++ x ≡ b ++ y → (m ≡ n) × (a ≡ b) × (x ≡ y)
same_front m n a b x y p q e =
    let left = ap (λ (s : List ℕ). bigsize_at (s ++ x)) p.1 ∙ bigsize_at-bigsize_bytes m x p.0 in
    let right = ap (λ (s : List ℕ). bigsize_at (s ++ y)) q.1 ∙ bigsize_at-bigsize_bytes n y q.0 in
    let same = ok_is (m, x) (n, y) (sym left ∙ ap bigsize_at e ∙ right) in
    let kind = ap (λ (z : ℕ × List ℕ). z.0) same in
    (kind, p.1 ∙ ap bigsize_bytes kind ∙ sym q.1, ap (λ (z : ℕ × List ℕ). z.1) same)
