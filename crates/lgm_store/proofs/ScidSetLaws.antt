-- Sets of channel ids that are stored in order of arrival.
use Rattle.std.proofs.Common.{◌≡◌, ℕ, Bool, true, false, not, cond, List, [], ◌∷◌, ◌++◌, length, take, get_or, ◌+◌, ◌<◌, refl, sym, ap, ◌∙◌, arith}
use Rattle.std.specs.Prelude.{◌==◌}
use Rattle.std.specs.List.{AllByRecursion, filter}
use Rattle.std.specs.List.Sorted.{IsStrictlySortedBy}
use Rattle.std.specs.Set.{remove_key}
use Rattle.std.specs.BTreeMap.{is_at}
use Rattle.std.specs.declared.cmp.Ordering.{Ordering}
use Rattle.std.specs.declared.cmp.Ordering.TheVariants.{Less, Equal, Greater}
use Rattle.std.specs.Ordering.{is_eq, nat_cmp, match_ordering}
use Rattle.std.proofs.lemmas.Bool.Decides.{nat_tests}
use Rattle.std.proofs.lemmas.Grind.{take_at_read}
use Rattle.lgm_store.specs.inner.ChannelsByNode.{with_id, without_id}
use Rattle.lgm_store.specs.inner.ScidSet.{collected, is_other}
use Rattle.lgm_store.proofs.NodeIdListLaws.{is_at-id}

-- ids above an id
abbrev AreAbove : ℕ → List ℕ → Type 0
AreAbove id ids = AllByRecursion (λ k. nat_cmp id k ≡ Less) ids

-- ---- one id more

pub collected-push : (set ids : List ℕ) (id : ℕ) → collected set (ids ++ id ∷ []) ≡ with_id (collected set ids) id
collected-push set [] id = refl
collected-push set (own ∷ ids) id = collected-push (with_id set own) ids id

-- one of a list
pub collected-more : (ids : List ℕ) (i : ℕ) (id : ℕ) → i < length ids → id ≡ get_or ids i id
    → collected [] (take (i + 1) ids) ≡ with_id (collected [] (take i ids)) id
collected-more ids i id in_range is =
    ap (collected []) ((take_at_read ids i id in_range).1) ∙ collected-push [] (take i ids) (get_or ids i id)
    ∙ ap (with_id (collected [] (take i ids))) (sym is)

some-more : (x : ℕ) (xs : List ℕ) → (length (x ∷ xs) == 0) ≡ false
some-more x xs = grind (arith, nat_tests)

some-with : (ids : List ℕ) (id : ℕ) → (length (with_id ids id) == 0) ≡ false
some-with [] id = refl
some-with (x ∷ xs) id = by (nat_cmp id x)
  where
    by : (o : Ordering) → (length (match_ordering o (id ∷ x ∷ xs) (x ∷ xs) (x ∷ with_id xs id)) == 0) ≡ false
    by Less = some-more id (x ∷ xs)
    by Equal = some-more x xs
    by Greater = some-more x (with_id xs id)

some-collected : (set ids : List ℕ) → (length set == 0) ≡ false → (length (collected set ids) == 0) ≡ false
some-collected set [] some = some
some-collected set (id ∷ ids) some = some-collected (with_id set id) ids (some-with set id)

-- none are collected of none
pub is_empty-collected : (ids : List ℕ) → (length (collected [] ids) == 0) ≡ (length ids == 0)
is_empty-collected [] = refl
is_empty-collected (id ∷ ids) = some-collected (id ∷ []) ids (some-more id []) ∙ sym (some-more id ids)

-- ---- one id less

above-lesser : (id other : ℕ) (ids : List ℕ) → nat_cmp id other ≡ Less → AreAbove other ids → AreAbove id ids
above-lesser id other [] less above = tt
above-lesser id other (x ∷ xs) less above = (grind (arith, nat_tests), above-lesser id other xs less above.1)

above-with : (id other : ℕ) (ids : List ℕ) → nat_cmp id other ≡ Less → AreAbove id ids → AreAbove id (with_id ids other)
above-with id other [] less above = (less, tt)
above-with id other (x ∷ xs) less above = by (above-with id other xs less above.1) (nat_cmp other x)
  where
    by : AreAbove id (with_id xs other) → (o : Ordering) → AreAbove id (match_ordering o (other ∷ x ∷ xs) (x ∷ xs) (x ∷ with_id xs other))
    by others Less = (less, above)
    by others Equal = above
    by others Greater = (above.0, others)

turned : (id other : ℕ) → nat_cmp id other ≡ Greater → nat_cmp other id ≡ Less
turned id other is = grind (arith, nat_tests)

ascend-with : (ids : List ℕ) (id : ℕ) → IsStrictlySortedBy nat_cmp ids → IsStrictlySortedBy nat_cmp (with_id ids id)
unfolding IsStrictlySortedBy
ascend-with [] id sorted = (tt, tt)
ascend-with (x ∷ xs) id sorted = by (ascend-with xs id sorted.1) (nat_cmp id x) refl
  where
    by : IsStrictlySortedBy nat_cmp (with_id xs id) → (o : Ordering) → nat_cmp id x ≡ o
        → IsStrictlySortedBy nat_cmp (match_ordering o (id ∷ x ∷ xs) (x ∷ xs) (x ∷ with_id xs id))
    by others Less is = ((is, above-lesser id x xs is sorted.0), sorted)
    by others Equal is = sorted
    by others Greater is = (above-with x id xs (turned id x is) sorted.0, others)

-- an id below all others isn't among them
without-above : (ids : List ℕ) (id : ℕ) → AreAbove id ids → without_id ids id ≡ ids
without-above [] id above = refl
without-above (x ∷ xs) id above = rw (above.0, without-above xs id above.1) refl

-- and goes in front of them
with-above : (ids : List ℕ) (id : ℕ) → AreAbove id ids → with_id ids id ≡ id ∷ ids
with-above [] id above = refl
with-above (x ∷ xs) id above = rw above.0 refl

-- an id that is inserted and removed
without-again : (ids : List ℕ) (id : ℕ) → IsStrictlySortedBy nat_cmp ids → without_id (with_id ids id) id ≡ without_id ids id
unfolding IsStrictlySortedBy
without-again [] id sorted = rw (is_at-id id) refl
without-again (x ∷ xs) id sorted = by (without-again xs id sorted.1) (nat_cmp id x) refl
  where
    by : without_id (with_id xs id) id ≡ without_id xs id → (o : Ordering) → nat_cmp id x ≡ o
        → remove_key (is_at (nat_cmp id)) (match_ordering o (id ∷ x ∷ xs) (x ∷ xs) (x ∷ with_id xs id))
        ≡ cond (is_eq (nat_cmp id x)) xs (x ∷ without_id xs id)
    by others Less is = rw (is_at-id id, is, without-above xs id (above-lesser id x xs is sorted.0)) refl
    by others Equal is = rw is refl
    by others Greater is = rw (is, others) refl

-- one id is inserted, and another removed
with-without : (ids : List ℕ) (id other : ℕ) → is_at (nat_cmp id) other ≡ false → IsStrictlySortedBy nat_cmp ids
    → with_id (without_id ids id) other ≡ without_id (with_id ids other) id
unfolding IsStrictlySortedBy
with-without [] id other apart sorted = rw apart refl
with-without (x ∷ xs) id other apart sorted = by (with-without xs id other apart sorted.1) (nat_cmp other x) refl (nat_cmp id x) refl
  where
    by : with_id (without_id xs id) other ≡ without_id (with_id xs other) id
        → (o : Ordering) → nat_cmp other x ≡ o → (p : Ordering) → nat_cmp id x ≡ p
        → with_id (cond (is_eq p) xs (x ∷ without_id xs id)) other
        ≡ remove_key (is_at (nat_cmp id)) (match_ordering o (other ∷ x ∷ xs) (x ∷ xs) (x ∷ with_id xs other))
    by others Less is Equal at = rw (apart, at, with-above xs other (above-lesser other x xs is sorted.0)) refl
    by others Less is Less at = rw (apart, at, is) refl
    by others Less is Greater at = rw (apart, at, is) refl
    by others Equal is Equal at = absurd (grind (arith, nat_tests))
    by others Equal is Less at = rw (at, is) refl
    by others Equal is Greater at = rw (at, is) refl
    by others Greater is Equal at = rw at refl
    by others Greater is Less at = rw (at, is, others) refl
    by others Greater is Greater at = rw (at, is, others) refl

-- all places of an id are left out
collected-without : (set ids : List ℕ) (id : ℕ) → IsStrictlySortedBy nat_cmp set
    → collected (without_id set id) (filter (is_other id) ids) ≡ without_id (collected set ids) id
collected-without set [] id sorted = refl
collected-without set (x ∷ xs) id sorted = by (collected-without (with_id set x) xs id (ascend-with set x sorted)) (x == id) refl
  where
    others : List ℕ
    others = filter (is_other id) xs

    here : (x == id) ≡ true → x ≡ id
    here is = grind (arith, nat_tests)

    apart : (x == id) ≡ false → is_at (nat_cmp id) x ≡ false
    apart is = grind (arith, nat_tests)

    by : collected (without_id (with_id set x) id) others ≡ without_id (collected (with_id set x) xs) id
        → (b : Bool) → (x == id) ≡ b
        → collected (without_id set id) (cond (not b) (x ∷ others) others) ≡ without_id (collected (with_id set x) xs) id
    by rest true is =
        ap (λ l. collected l others) (sym (ap (λ y. without_id (with_id set y) id) (here is) ∙ without-again set id sorted)) ∙ rest
    by rest false is = ap (λ l. collected l others) (with-without set id x (apart is) sorted) ∙ rest

pub collected-others : (ids : List ℕ) (id : ℕ) → collected [] (filter (is_other id) ids) ≡ without_id (collected [] ids) id
unfolding IsStrictlySortedBy
collected-others ids id = collected-without [] ids id tt
