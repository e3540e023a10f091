-- Values that are put into slots in the order of their keys.
use Rattle.std.proofs.Common.{◌≡◌, ℕ, List, [], ◌∷◌, ◌++◌, Option, Some, None, refl, sym, ap, ◌∙◌}
use Rattle.std.specs.Option.{option_map}
use Rattle.std.specs.List.{AllByRecursion}
use Rattle.std.specs.List.Sorted.{IsStrictlySortedBy}
use Rattle.std.specs.Map.{lookup, keys_of}
use Rattle.std.specs.BTreeMap.{is_at, insert_entry}
use Rattle.std.specs.Cmp.{IsTotalOrder}
use Rattle.std.specs.declared.cmp.Ordering.{Ordering}
use Rattle.std.specs.declared.cmp.Ordering.TheVariants.{Less, Greater}
use Rattle.lgm_store.specs.inner.Slots.{slot_at, entries_in, HaveOwn}

-- a key that is above all others
abbrev pub IsHighest : {K X : Type 0} → (K → K → Ordering) → K → List (K × X) → Type 0
IsHighest cmp key es = AllByRecursion (λ other. cmp key other ≡ Greater) (keys_of es)

module _ {K X : Type 0} (cmp : K → K → Ordering) where
  -- is added at the end
  pub insert-last : (key : K) (value : X) (es : List (K × X)) → IsHighest cmp key es → insert_entry cmp es key value ≡ es ++ (key, value) ∷ []
  insert-last key value [] above = refl
  insert-last key value (e ∷ es) above = rw above.0 (ap (λ (xs : List (K × X)). e ∷ xs) (insert-last key value es above.1))

  -- and wasn't there
  pub lookup-last : (key : K) (es : List (K × X)) → IsHighest cmp key es → lookup (is_at (cmp key)) es ≡ None
  lookup-last key [] above = refl
  lookup-last key (e ∷ es) above = rw above.0 (lookup-last key es above.1)

  -- of ascending entries each is above those before
  pub highest : IsTotalOrder cmp → (before : List (K × X)) (e : K × X) (behind : List (K × X))
      → IsStrictlySortedBy cmp (keys_of (before ++ e ∷ behind)) → IsHighest cmp e.0 before
  unfolding IsStrictlySortedBy
  highest total [] e behind sorted = tt
  highest total (x ∷ xs) e behind sorted = (
    total.antisymm e.0 x.0 ∙ rw (reaches xs sorted.0) refl,
    highest total xs e behind sorted.1,
  )
    where
      reaches : (ys : List (K × X)) → AllByRecursion (λ k. cmp x.0 k ≡ Less) (keys_of (ys ++ e ∷ behind)) → cmp x.0 e.0 ≡ Less
      reaches [] all = all.0
      reaches (y ∷ ys) all = reaches ys all.1

-- one more entry is taken over
pub taken_over : {X : Type 0} (copy taken : List X) (e : X) (rest all : List X) → copy ++ e ∷ rest ≡ all
    → taken ≡ copy ++ e ∷ [] → taken ++ rest ≡ all
taken_over {X = X} copy taken e rest all before is = rw is (assoc copy) ∙ before
  where
    assoc : (xs : List X) → (xs ++ e ∷ []) ++ rest ≡ xs ++ e ∷ rest
    assoc [] = refl
    assoc (x ∷ xs) = ap (λ (ys : List X). x ∷ ys) (assoc xs)

-- of what is left to be copied, the next entry is that of a copy of its value
pub next_copied : {K V : Type 0} (key_of : V → K) (slots : List (Option V)) (key : K) (number : ℕ) (stored copied : V)
    (left rest : List (K × ℕ)) (copy all : List (K × V)) → left ≡ (key, number) ∷ rest → HaveOwn key_of slots left
    → slot_at slots number ≡ Some stored → copied ≡ stored → copy ++ entries_in slots left ≡ all
    → copy ++ (key_of copied, copied) ∷ entries_in slots rest ≡ all
next_copied {K = K} {V = V} key_of slots key number stored copied left rest copy all steps own is same whole =
    let here : HaveOwn key_of slots ((key, number) ∷ rest) = rw steps at own in
    let keys : Some (key_of stored) ≡ Some key = ap (option_map key_of) (sym is) ∙ here.0 in
    let key_is : key_of stored ≡ key = cc in
    let next : entries_in slots ((key, number) ∷ rest) ≡ (key_of copied, copied) ∷ entries_in slots rest = rw (is, same, key_is) refl in
    ap (λ (es : List (K × V)). copy ++ es) (sym next) ∙ ap (λ (es : List (K × ℕ)). copy ++ entries_in slots es) (sym steps) ∙ whole
