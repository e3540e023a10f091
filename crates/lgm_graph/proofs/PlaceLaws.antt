-- Values of some of the nodes of a graph, at places.
use Rattle.std.proofs.Common.{◌≡◌, ◌≢◌, ◌⊎◌, inl, inr, ◌∙◌, ℕ, ◌+◌, ◌<◌, ◌≤◌, ◌^◌, true, false, List, [], ◌∷◌, ◌++◌, length, get_or, set, zero, suc}
use Rattle.std.proofs.Common.{refl, sym, ap, Some, arith, true≢false, length-append}
use Rattle.std.specs.Prelude.{eqb}
use Rattle.std.specs.List.{slice_get}
use Rattle.std.proofs.lemmas.Bool.{eqb-true, eq-eqb, cases_Bool}
use Rattle.std.proofs.lemmas.List.{length-set, get_or-set_same, get_or-set_other}
use Rattle.std.proofs.lemmas.Option.{slice_get_within}
use Rattle.lgm_graph.specs.Places.{NodeTable, AreByNumber, at_place, place_of, used_places, value_of}
use Rattle.lgm_graph.proofs.Further.{slice_left}

pub used_none : (places : List ℕ) → ((n : ℕ) → get_or places n 0 ≡ 0) → used_places places ≡ 0
used_none [] none = refl
used_none (zero ∷ ks) none = used_none ks (λ n. none (suc n))
used_none (suc k ∷ ks) none = absurd (let h : suc k ≡ 0 = none 0 in omega (arith, h))

used_le : (places : List ℕ) → used_places places ≤ length places
used_le [] = omega arith
used_le (zero ∷ ks) = let rest = used_le ks in omega (arith, rest)
used_le (suc k ∷ ks) = let rest = used_le ks in omega (arith, rest)

-- one more place is used
pub used_set : (places : List ℕ) (n k : ℕ) → n < length places → get_or places n 0 ≡ 0 → used_places (set places n (suc k)) ≡ suc (used_places places)
used_set [] n k lt none = absurd (omega (arith, lt))
used_set (zero ∷ ks) zero k lt none = refl
used_set (suc j ∷ ks) zero k lt none = absurd (let h : suc j ≡ 0 = none in omega (arith, h))
used_set (zero ∷ ks) (suc n) k lt none = used_set ks n k (omega (arith, lt)) none
used_set (suc j ∷ ks) (suc n) k lt none = ap suc (used_set ks n k (omega (arith, lt)) none)

pub used_less : (places : List ℕ) (n : ℕ) → n < length places → get_or places n 0 ≡ 0 → used_places places < length places
used_less places n lt none =
    let more = used_le (set places n (suc 0)) in
    omega (arith, more, used_set places n 0 lt none, length-set places n (suc 0))

-- the last value
pub slice_last : {X : Type 0} (xs : List X) (x : X) → slice_get (xs ++ x ∷ []) (length xs) ≡ Some x
slice_last [] x = refl
slice_last (y ∷ ys) x = slice_last ys x

-- ---- values are replaced

pub slice_set : {X : Type 0} (xs : List X) (k : ℕ) (x : X) → k < length xs → slice_get (set xs k x) k ≡ Some x
slice_set [] k x lt = absurd (omega (arith, lt))
slice_set (y ∷ ys) zero x lt = refl
slice_set (y ∷ ys) (suc k) x lt = slice_set ys k x (omega (arith, lt))

pub slice_set_other : {X : Type 0} (xs : List X) (k j : ℕ) (x : X) → j ≢ k → slice_get (set xs k x) j ≡ slice_get xs j
slice_set_other [] k j x apart = refl
slice_set_other (y ∷ ys) zero zero x apart = absurd (apart refl)
slice_set_other (y ∷ ys) zero (suc j) x apart = refl
slice_set_other (y ∷ ys) (suc k) zero x apart = refl
slice_set_other (y ∷ ys) (suc k) (suc j) x apart = slice_set_other ys k j x (λ same. apart (ap suc same))

-- ---- tables

-- no node has a value
pub none_placed : {X : Type 0} (number_in : X → ℕ) (places : List ℕ) → ((n : ℕ) → get_or places n 0 ≡ 0) → length places < 2 ^ 32
    → AreByNumber number_in (record { places = places; nodes = [] })
none_placed number_in places none few = record {
  own = λ n k is. absurd (let h : 0 ≡ suc k = sym (none n) ∙ is in omega (arith, h));
  count = sym (used_none places none);
  few = few;
}

module _ {X : Type 0} {number_in : X → ℕ} (t : NodeTable X) (placed : AreByNumber number_in t) where
  -- a place is that of some node
  pub place_within : (n k : ℕ) → place_of t n ≡ suc k → k < length t.nodes
  place_within n k is = let own = placed.own n k is in slice_get_within t.nodes k own.0 own.1

  -- the value there is that of the node, and no other node has it
  named : (n k : ℕ) (x : X) → place_of t n ≡ suc k → slice_get t.nodes k ≡ Some x → number_in x ≡ n
  named n k x is there =
      let own = placed.own n k is in
      let same : x ≡ own.0 = (let h : Some x ≡ Some own.0 = sym there ∙ own.1 in cc) in
      ap number_in same ∙ own.2

  -- ---- one more node has a value
  module _ (x : X) (within : number_in x < length t.places) (new : place_of t (number_in x) ≡ 0) where
    pub few_nodes : length t.nodes + 1 < 2 ^ 32
    few_nodes = omega (arith, placed.count, placed.few, used_less t.places (number_in x) within new)

    abbrev pub with_more : NodeTable X
    with_more = record { places = set t.places (number_in x) (suc (length t.nodes)); nodes = t.nodes ++ x ∷ [] }

    more_same : place_of with_more (number_in x) ≡ suc (length t.nodes)
    more_same = get_or-set_same t.places (number_in x) (suc (length t.nodes)) 0 within

    pub more_other : (other : ℕ) → other ≢ number_in x → place_of with_more other ≡ place_of t other
    more_other other apart = get_or-set_other t.places (number_in x) other (suc (length t.nodes)) 0 apart

    pub more_long : length with_more.places ≡ length t.places
    more_long = length-set t.places (number_in x) (suc (length t.nodes))

    pub more_here : value_of with_more (number_in x) ≡ Some x
    more_here = ap (at_place with_more.nodes) more_same ∙ slice_last t.nodes x

    pub more_others : (other : ℕ) → other ≢ number_in x → value_of with_more other ≡ value_of t other
    more_others other apart = ap (at_place with_more.nodes) (more_other other apart) ∙ by (place_of t other) refl
      where
        by : (place : ℕ) → place_of t other ≡ place → at_place with_more.nodes (place_of t other) ≡ value_of t other
        by zero is = rw is refl
        by (suc k) is = rw is (slice_left t.nodes (x ∷ []) k (place_within other k is))

    pub more_placed : AreByNumber number_in with_more
    more_placed = record {
      own = λ n k is. by n k is (cases_Bool (eqb n (number_in x)));
      count = omega (arith, length-append t.nodes (x ∷ []), placed.count, used_set t.places (number_in x) (length t.nodes) within new);
      few = omega (arith, placed.few, more_long);
    }
      where
        by : (n k : ℕ) → place_of with_more n ≡ suc k → (eqb n (number_in x) ≡ true) ⊎ (eqb n (number_in x) ≡ false)
            → (value : X) × (slice_get with_more.nodes k ≡ Some value) × (number_in value ≡ n)
        by n k is (inl e) =
            let same : n ≡ number_in x = eqb-true n (number_in x) e in
            let here : k ≡ length t.nodes =
            (let h : suc k ≡ suc (length t.nodes) = sym is ∙ ap (place_of with_more) same ∙ more_same in omega (arith, h)) in
            (x, ap (slice_get with_more.nodes) here ∙ slice_last t.nodes x, sym same)
        by n k is (inr e) =
            let apart : n ≢ number_in x = λ same. (let h : true ≡ false = sym (eq-eqb n (number_in x) same) ∙ e in true≢false h) in
            let own = placed.own n k (sym (more_other n apart) ∙ is) in
            (own.0, slice_left t.nodes (x ∷ []) k (slice_get_within t.nodes k own.0 own.1) ∙ own.1, own.2)

  -- ---- a value is replaced
  module _ (k : ℕ) (old new : X) (there : slice_get t.nodes k ≡ Some old) (same : number_in new ≡ number_in old) where
    abbrev pub with_new : NodeTable X
    with_new = record { places = t.places; nodes = set t.nodes k new }

    pub new_placed : AreByNumber number_in with_new
    new_placed = record {
      own = λ n j is. by n j is (cases_Bool (eqb j k));
      count = omega (arith, length-set t.nodes k new, placed.count);
      few = placed.few;
    }
      where
        by : (n j : ℕ) → place_of t n ≡ suc j → (eqb j k ≡ true) ⊎ (eqb j k ≡ false)
            → (value : X) × (slice_get (set t.nodes k new) j ≡ Some value) × (number_in value ≡ n)
        by n j is (inl e) =
            let at : j ≡ k = eqb-true j k e in
            let here : place_of t n ≡ suc k = is ∙ ap suc at in (
              new,
              ap (slice_get (set t.nodes k new)) at ∙ slice_set t.nodes k new (slice_get_within t.nodes k old there),
              same ∙ named n k old here there,
            )
        by n j is (inr e) =
            let apart : j ≢ k = λ same. (let h : true ≡ false = sym (eq-eqb j k same) ∙ e in true≢false h) in
            let own = placed.own n j is in
            (own.0, slice_set_other t.nodes k j new apart ∙ own.1, own.2)

    module _ (n : ℕ) (is : place_of t n ≡ suc k) where
      pub new_here : value_of with_new n ≡ Some new
      new_here = ap (at_place with_new.nodes) is ∙ slice_set t.nodes k new (slice_get_within t.nodes k old there)

      pub new_others : (other : ℕ) → other ≢ n → value_of with_new other ≡ value_of t other
      new_others other apart = by (place_of t other) refl
        where
          by : (place : ℕ) → place_of t other ≡ place → value_of with_new other ≡ value_of t other
          by zero at = rw at refl
          by (suc j) at = rw at (slice_set_other t.nodes k j new elsewhere)
            where
              elsewhere : j ≢ k
              elsewhere here = apart (sym (named other k old (at ∙ ap suc here) there) ∙ named n k old is there)
