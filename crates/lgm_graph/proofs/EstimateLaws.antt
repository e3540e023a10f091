-- What a list of entries has once one is set.
use Rattle.std.proofs.Common.{◌≡◌, ◌⊎◌, inl, inr, ◌∙◌, Bool, true, false, cond, List, [], ◌∷◌, ◌++◌, None, Some, is_some, if◌then◌else◌}
use Rattle.std.proofs.Common.{refl, sym, ap, append-nil, true≢false}
use Rattle.std.specs.Prelude.{◌&&◌}
use Rattle.std.specs.List.{AllByRecursion}
use Rattle.std.proofs.lemmas.Bool.{cases_Bool, eq-eqb}
use Rattle.std.proofs.lemmas.Map.Keys.{IsDistinct-head, IsDistinct-tail}
use Rattle.std.specs.Map.{keys_of, lookup}
use Rattle.indexmap.specs.IndexMap.{insert_entry}
use Rattle.lgm_store.specs.Rows.{is_point}
use Rattle.lgm_store.proofs.Points.{is_point-self}
use Rattle.lgm_graph.specs.declared.estimate.Estimate.{Estimate}
use Rattle.lgm_graph.specs.declared.estimate.EdgeKey.{EdgeKey}
use Rattle.lgm_graph.specs.Estimates.{AreOfDistinctEdges, Entries, is_key, known_of}
use Rattle.lgm_graph.proofs.FilterLaws.{key_is}

module _ {K X : Type 0} (eq : K → K → Bool) (key : K) (value : X) where
  -- the keys stay, and a new one comes last
  pub keys-insert_entry : (entries : List (K × X)) → keys_of (insert_entry eq entries key value)
      ≡ keys_of entries ++ (if is_some (lookup (eq key) entries) then [] else key ∷ [])
  keys-insert_entry [] = refl
  keys-insert_entry (entry ∷ entries) = by (eq key entry.0) (keys-insert_entry entries)
    where
      by : (same : Bool) → keys_of (insert_entry eq entries key value)
          ≡ keys_of entries ++ (if is_some (lookup (eq key) entries) then [] else key ∷ [])
          → keys_of (if same then (entry.0, value) ∷ entries else entry ∷ insert_entry eq entries key value)
          ≡ entry.0 ∷ keys_of entries ++ (if is_some (cond same (Some entry.1) (lookup (eq key) entries)) then [] else key ∷ [])
      by true others = sym (append-nil (entry.0 ∷ keys_of entries))
      by false others = ap (λ keys. entry.0 ∷ keys) others

-- what holds of each key holds of the key behind some entries
each-key : (P : EdgeKey → Type 0) (entries more : Entries) (entry : EdgeKey × Estimate)
    → AllByRecursion P (keys_of (entries ++ entry ∷ more)) → P entry.0
each-key P [] more entry all = all.0
each-key P (other ∷ entries) more entry all = each-key P entries more entry all.1

-- keys differ either way
apart-sym : (key other : EdgeKey) → is_key other.scid other.from key ≡ false → is_key key.scid key.from other ≡ false
apart-sym key other apart = by (cases_Bool (is_key key.scid key.from other))
  where
    by : (is_key key.scid key.from other ≡ true) ⊎ (is_key key.scid key.from other ≡ false) → is_key key.scid key.from other ≡ false
    by (inr e) = e
    by (inl e) =
        let is = key_is key.scid key.from other e in
        let own : is_key other.scid other.from other ≡ true = ap (λ b. b && is_point other.from other.from) (eq-eqb other.scid other.scid refl) ∙ is_point-self other.from in
        let same : is_key other.scid other.from key ≡ true = ap (λ id. is_key other.scid other.from (record { scid = id; from = key.from })) is.0
        ∙ ap (λ from. is_key other.scid other.from (record { scid = other.scid; from = from })) is.1 ∙ own in
        absurd (true≢false (sym same ∙ apart))

-- nothing is known of an entry's edge by those before it
pub known-before : (entries more : Entries) (key : EdgeKey) (estimate : Estimate)
    → AreOfDistinctEdges (entries ++ (key, estimate) ∷ more) → known_of entries key.scid key.from ≡ None
known-before [] more key estimate distinct = refl
known-before (entry ∷ entries) more key estimate distinct =
    let head = IsDistinct-head (λ (own other : EdgeKey). is_key own.scid own.from other) entry.0 (keys_of (entries ++ (key, estimate) ∷ more)) distinct in
    let tail = IsDistinct-tail (λ (own other : EdgeKey). is_key own.scid own.from other) entry.0 (keys_of (entries ++ (key, estimate) ∷ more)) distinct in
    let apart : is_key key.scid key.from entry.0 ≡ false =
    apart-sym key entry.0 (each-key (λ other. is_key entry.0.scid entry.0.from other ≡ false) entries more (key, estimate) head) in
    ap (λ b. cond b (Some entry.1) (known_of entries key.scid key.from)) apart ∙ known-before entries more key estimate tail
