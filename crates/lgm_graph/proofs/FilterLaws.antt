-- The bits of a filter of edges.
use Rattle.std.proofs.Common.{◌≡◌, ◌≢◌, ◌⊎◌, inl, inr, ◌∙◌, ℕ, ◌*◌, ◌/◌, ◌%◌, ◌^◌, ◌<◌, List, length, get_or, set}
use Rattle.std.proofs.Common.{Bool, true, false, ◌&&◌, None, bit_or, refl, sym, ap, arith, true≢false, mod-eq_of_lt}
use Rattle.std.specs.Prelude.{eqb, ◌==◌}
use Rattle.std.specs.Int.{bit_at}
use Rattle.std.specs.Option.{is_some}
use Rattle.std.proofs.Math.Pow.{pow-lt}
use Rattle.std.proofs.lemmas.Bool.{cases_Bool, eqb-true, eq-eqb}
use Rattle.std.proofs.lemmas.List.{get_or-set_same, get_or-set_other, get_or_default}
use Rattle.std.proofs.lemmas.Nat.Bits.{bit_at_or, bit_at-pow_same}
use Rattle.lgm_wire.specs.declared.point.Point.{Point}
use Rattle.lgm_store.specs.Rows.{is_point}
use Rattle.lgm_store.proofs.Points.{same_point}
use Rattle.lgm_graph.specs.declared.estimate.EdgeKey.{EdgeKey}
use Rattle.lgm_graph.specs.Estimates.{Entries, known_of, is_key}
use Rattle.lgm_graph.specs.inner.Filtering.{class_of, bit_of, Covers}

-- ---- a bit that is set

shifted : (k : ℕ) → k < 64 → 1 * 2 ^ k % 18446744073709551616 ≡ 2 ^ k
shifted k lt =
    let below : 2 ^ k < 18446744073709551616 = pow-lt lt in
    let once : 1 * 2 ^ k < 18446744073709551616 = omega (arith, below) in
    mod-eq_of_lt once ∙ omega arith

bit_now : (word k : ℕ) → k < 64 → bit_at (bit_or word (1 * 2 ^ k % 18446744073709551616)) k ≡ 1
bit_now word k lt =
    ap (λ x. bit_at (bit_or word x) k) (shifted k lt) ∙ bit_at_or word (2 ^ k) k ∙ omega (arith, bit_at-pow_same k)

bit_kept : (word more k : ℕ) → bit_at word k ≡ 1 → bit_at (bit_or word more) k ≡ 1
bit_kept word more k is = bit_at_or word more k ∙ omega (arith, is)

-- the words with one more bit
abbrev pub marked : List ℕ → ℕ → ℕ → List ℕ
marked words class word = set words (class / 64) (bit_or word (1 * 2 ^ (class % 64) % 18446744073709551616))

module _ (words : List ℕ) (class word : ℕ) (within : class / 64 < length words) (is : word ≡ get_or words (class / 64) word) where
  pub marked_here : bit_of (marked words class word) class ≡ 1
  marked_here =
      ap (λ w. bit_at w (class % 64)) (get_or-set_same words (class / 64) (bit_or word (1 * 2 ^ (class % 64) % 18446744073709551616)) 0 within)
      ∙ bit_now word (class % 64) (omega arith)

  pub marked_kept : (other : ℕ) → bit_of words other ≡ 1 → bit_of (marked words class word) other ≡ 1
  marked_kept other old = by (cases_Bool (eqb (other / 64) (class / 64)))
    where
      by : (eqb (other / 64) (class / 64) ≡ true) ⊎ (eqb (other / 64) (class / 64) ≡ false) → bit_of (marked words class word) other ≡ 1
      by (inl e) =
          let same : other / 64 ≡ class / 64 = eqb-true (other / 64) (class / 64) e in
          let here : get_or words (other / 64) 0 ≡ word =
          ap (λ n. get_or words n 0) same ∙ get_or_default words (class / 64) 0 word within ∙ sym is in
          ap (λ n. bit_at (get_or (marked words class word) n 0) (other % 64)) same
          ∙ ap (λ w. bit_at w (other % 64)) (get_or-set_same words (class / 64) (bit_or word (1 * 2 ^ (class % 64) % 18446744073709551616)) 0 within)
          ∙ bit_kept word (1 * 2 ^ (class % 64) % 18446744073709551616) (other % 64) (ap (λ w. bit_at w (other % 64)) (sym here) ∙ old)
      by (inr e) =
          let apart : other / 64 ≢ class / 64 = λ same. (let h : true ≡ false = sym (eq-eqb (other / 64) (class / 64) same) ∙ e in true≢false h) in
          ap (λ w. bit_at w (other % 64))
          (get_or-set_other words (class / 64) (other / 64) (bit_or word (1 * 2 ^ (class % 64) % 18446744073709551616)) 0 apart) ∙ old

-- ---- the edges that are known

both : (a b : Bool) → (a && b) ≡ true → (a ≡ true) × (b ≡ true)
both true b same = (refl, same)
both false b same = absurd cc

-- a key is that of its id and node alone
pub key_is : (id : ℕ) (from : Point) (key : EdgeKey) → is_key id from key ≡ true → (id ≡ key.scid) × (from ≡ key.from)
key_is id from key same =
    let each = both (id == key.scid) (is_point from key.from) same in
    (eqb-true id key.scid each.0, same_point from key.from each.1)

abbrev key_named : ℕ → Point → EdgeKey
key_named id from = record { scid = id; from = from }

-- one more edge is known, whose bit is set
pub covers_more : (words after : List ℕ) (entries more : Entries) (id : ℕ) (from : Point) → Covers words entries
    → ((class : ℕ) → bit_of words class ≡ 1 → bit_of after class ≡ 1) → bit_of after (class_of id from) ≡ 1
    → ((other : EdgeKey) → is_key id from other ≡ false → known_of more other.scid other.from ≡ known_of entries other.scid other.from)
    → Covers after more
covers_more words after entries more id from covers kept here others other_id other known =
    by (cases_Bool (is_key id from (key_named other_id other)))
  where
    by : (is_key id from (key_named other_id other) ≡ true) ⊎ (is_key id from (key_named other_id other) ≡ false)
        → bit_of after (class_of other_id other) ≡ 1
    by (inl same) =
        let is = key_is id from (key_named other_id other) same in
        ap (λ n. bit_of after (class_of n other)) (sym is.0) ∙ ap (λ p. bit_of after (class_of id p)) (sym is.1) ∙ here
    by (inr apart) =
        kept (class_of other_id other) (covers other_id other (ap is_some (sym (others (key_named other_id other) apart)) ∙ known))

-- one edge less is known
pub covers_less : (words : List ℕ) (entries less : Entries) (id : ℕ) (from : Point) → Covers words entries
    → known_of less id from ≡ None
    → ((other : EdgeKey) → is_key id from other ≡ false → known_of less other.scid other.from ≡ known_of entries other.scid other.from)
    → Covers words less
covers_less words entries less id from covers here others other_id other known =
    by (cases_Bool (is_key id from (key_named other_id other)))
  where
    by : (is_key id from (key_named other_id other) ≡ true) ⊎ (is_key id from (key_named other_id other) ≡ false)
        → bit_of words (class_of other_id other) ≡ 1
    by (inl same) =
        let is = key_is id from (key_named other_id other) same in
        let none : known_of less other_id other ≡ None =
        ap (λ n. known_of less n other) (sym is.0) ∙ ap (λ p. known_of less id p) (sym is.1) ∙ here in
        let h : false ≡ true = ap is_some (sym none) ∙ known in absurd (true≢false (sym h))
    by (inr apart) = covers other_id other (ap is_some (sym (others (key_named other_id other) apart)) ∙ known)
