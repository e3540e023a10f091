-- Values in slots, read as an ordered map.
use Rattle.std.proofs.Common.{◌≡◌, ◌≢◌, ℕ, Bool, true, false, cond, List, [], ◌∷◌, ◌++◌, Option}
use Rattle.std.proofs.Common.{Some, None, length, refl, sym, ap, ◌∙◌}
use Rattle.std.specs.Option.{option_map, option_and_then}
use Rattle.std.specs.List.{AllByRecursion, filter}
use Rattle.std.specs.List.Sorted.{IsStrictlySortedBy}
use Rattle.std.specs.Map.{lookup, remove_entry, set_value, keys_of}
use Rattle.std.specs.BTreeMap.{is_at, insert_entry}
use Rattle.std.specs.declared.cmp.Ordering.{Ordering}
use Rattle.std.specs.declared.cmp.Ordering.TheVariants.{Less, Equal, Greater}
use Rattle.std.specs.Ordering.{is_eq, match_ordering}
use Rattle.lgm_store.specs.inner.Slots.{slot_at, entry_in, entries_in, HaveOwn}
use Rattle.lgm_store.proofs.KeyOrder.{IsKeyOrder, same_at, equal_at, is_at-own}

module _ {K V : Type 0} {cmp : K → K → Ordering} (order : IsKeyOrder cmp) (key_of : V → K) where
  -- ---- unchanged slots

  -- entries with other slot numbers
  Apart : ℕ → List (K × ℕ) → Type 0
  Apart number es = AllByRecursion (λ e. e.1 ≢ number) es

  module _ (old new : List (Option V)) (number : ℕ) (same : (other : ℕ) → other ≢ number → slot_at new other ≡ slot_at old other) where
    same_entries : (es : List (K × ℕ)) → Apart number es → entries_in new es ≡ entries_in old es
    unfolding Apart
    same_entries [] apart = refl
    same_entries (e ∷ es) apart = rw (same e.1 apart.0, same_entries es apart.1) refl

    same_own : (es : List (K × ℕ)) → Apart number es → HaveOwn key_of old es → HaveOwn key_of new es
    unfolding Apart
    same_own [] apart own = tt
    same_own (e ∷ es) apart own = (rw (same e.1 apart.0) own.0, same_own es apart.1 own.1)

  -- the value in the slot of an entry
  pub in_slot : (o : Option V) (key : K) → option_map key_of o ≡ Some key → (stored : V) × (o ≡ Some stored) × (key_of stored ≡ key)
  in_slot None key own = absurd cc
  in_slot (Some stored) key own = (stored, refl, cc)

  -- the number of a free slot
  vacant_apart : (slots : List (Option V)) (number : ℕ) (es : List (K × ℕ)) → slot_at slots number ≡ None → HaveOwn key_of slots es → Apart number es
  unfolding Apart
  vacant_apart slots number [] vacant own = tt
  vacant_apart slots number (e ∷ es) vacant own = (
    λ is. let never : None ≡ Some e.0 = ap (option_map key_of) (sym vacant) ∙ ap (λ n. option_map key_of (slot_at slots n)) (sym is) ∙ own.0 in absurd cc,
    vacant_apart slots number es vacant own.1,
  )

  -- the slot number of a value, among entries of other keys
  other_apart : (slots : List (Option V)) (number : ℕ) (key : K) (es : List (K × ℕ)) → option_map key_of (slot_at slots number) ≡ Some key
      → AllByRecursion (λ k. is_at (cmp key) k ≡ false) (keys_of es) → HaveOwn key_of slots es → Apart number es
  unfolding Apart
  other_apart slots number key [] here others own = tt
  other_apart slots number key (e ∷ es) here others own = (
    λ is. let key_is : Some key ≡ Some e.0 = sym here ∙ ap (λ n. option_map key_of (slot_at slots n)) (sym is) ∙ own.0 in
        let same_key : key ≡ e.0 = cc in
        let never : true ≡ false = sym (is_at-own order key) ∙ ap (is_at (cmp key)) same_key ∙ others.0 in
        absurd cc,
    other_apart slots number key es here others.1 own.1,
  )

  -- keys above a key are others
  above_others : (key k : K) (ks : List K) → is_at (cmp key) k ≡ true
      → AllByRecursion (λ j. cmp k j ≡ Less) ks → AllByRecursion (λ j. is_at (cmp key) j ≡ false) ks
  above_others key k [] here above = tt
  above_others key k (j ∷ js) here above = (other key k j here above.0, above_others key k js here above.1)
    where
      other : (a b c : K) → is_at (cmp a) b ≡ true → cmp b c ≡ Less → is_at (cmp a) c ≡ false
      other a b c is less = ap is_eq (order.total.congr a b c (equal_at cmp a b is) ∙ less)

  -- ---- what is found

  module _ (slots : List (Option V)) where
    pub lookup-slots : (test : K → Bool) (es : List (K × ℕ)) → HaveOwn key_of slots es
        → lookup test (entries_in slots es) ≡ option_and_then (slot_at slots) (lookup test es)
    lookup-slots test [] own = refl
    lookup-slots test (e ∷ es) own =
        let here = in_slot (slot_at slots e.1) e.0 own.0 in
        by here.0 here.1 (lookup-slots test es own.1) (test e.0) refl
      where
        by : (stored : V) → slot_at slots e.1 ≡ Some stored → lookup test (entries_in slots es) ≡ option_and_then (slot_at slots) (lookup test es)
            → (b : Bool) → test e.0 ≡ b
            → lookup test (entry_in e.0 (slot_at slots e.1) ++ entries_in slots es)
            ≡ option_and_then (slot_at slots) (cond (test e.0) (Some e.1) (lookup test es))
        by stored is others true test_is = rw (is, test_is) (sym is)
        by stored is others false test_is = rw (is, test_is) others

    -- an entry's own slot is found
    pub found-own : (key : K) (number : ℕ) (es : List (K × ℕ)) → HaveOwn key_of slots es
        → lookup (is_at (cmp key)) es ≡ Some number → option_map key_of (slot_at slots number) ≡ Some key
    found-own key number [] own found = absurd cc
    found-own key number (e ∷ es) own found = by (found-own key number es own.1) (is_at (cmp key) e.0) refl found
      where
        by : (lookup (is_at (cmp key)) es ≡ Some number → option_map key_of (slot_at slots number) ≡ Some key)
            → (b : Bool) → is_at (cmp key) e.0 ≡ b
            → cond (is_at (cmp key) e.0) (Some e.1) (lookup (is_at (cmp key)) es) ≡ Some number
            → option_map key_of (slot_at slots number) ≡ Some key
        by others true is found =
            let here : Some e.1 ≡ Some number = rw is at found in
            let number_is : e.1 ≡ number = cc in
            ap (λ n. option_map key_of (slot_at slots n)) (sym number_is) ∙ own.0 ∙ ap (λ (k : K). Some k) (sym (same_at order key e.0 is))
        by others false is found = others (rw is at found)

    -- iterating over slot numbers is iterating over values
    pub filter-slots : (test : K → Bool) (es : List (K × ℕ)) → HaveOwn key_of slots es
        → entries_in slots (filter (λ e. test e.0) es) ≡ filter (λ e. test e.0) (entries_in slots es)
    filter-slots test [] own = refl
    filter-slots test (e ∷ es) own =
        let here = in_slot (slot_at slots e.1) e.0 own.0 in
        by here.0 here.1 (filter-slots test es own.1) (test e.0) refl
      where
        by : (stored : V) → slot_at slots e.1 ≡ Some stored → entries_in slots (filter (λ e. test e.0) es) ≡ filter (λ e. test e.0) (entries_in slots es)
            → (b : Bool) → test e.0 ≡ b
            → entries_in slots (cond (test e.0) (e ∷ filter (λ e. test e.0) es) (filter (λ e. test e.0) es))
            ≡ filter (λ e. test e.0) (entry_in e.0 (slot_at slots e.1) ++ entries_in slots es)
        by stored is others true test_is = rw (is, test_is, is, others) refl
        by stored is others false test_is = rw (is, test_is) others

    pub own-filter : (test : K → Bool) (es : List (K × ℕ)) → HaveOwn key_of slots es → HaveOwn key_of slots (filter (λ e. test e.0) es)
    own-filter test [] own = tt
    own-filter test (e ∷ es) own = by (own-filter test es own.1) (test e.0)
      where
        by : HaveOwn key_of slots (filter (λ e. test e.0) es) → (b : Bool) → HaveOwn key_of slots (cond b (e ∷ filter (λ e. test e.0) es) (filter (λ e. test e.0) es))
        by others true = (own.0, others)
        by others false = others

    pub keys-slots : (es : List (K × ℕ)) → HaveOwn key_of slots es → keys_of (entries_in slots es) ≡ keys_of es
    keys-slots [] own = refl
    keys-slots (e ∷ es) own = let here = in_slot (slot_at slots e.1) e.0 own.0 in rw (here.1, keys-slots es own.1) refl

    pub length-slots : (es : List (K × ℕ)) → HaveOwn key_of slots es → length (entries_in slots es) ≡ length es
    length-slots [] own = refl
    length-slots (e ∷ es) own = let here = in_slot (slot_at slots e.1) e.0 own.0 in rw (here.1, length-slots es own.1) refl

    -- ---- adding and removing an entry

    insert-entries : (key : K) (number : ℕ) (stored : V) (es : List (K × ℕ)) → slot_at slots number ≡ Some stored → HaveOwn key_of slots es
        → entries_in slots (insert_entry cmp es key number) ≡ insert_entry cmp (entries_in slots es) key stored
    insert-entries key number stored [] is own = rw is refl
    insert-entries key number stored (e ∷ es) is own =
        let here = in_slot (slot_at slots e.1) e.0 own.0 in
        by here.0 here.1 (insert-entries key number stored es is own.1) (cmp key e.0) refl
      where
        by : (first : V) → slot_at slots e.1 ≡ Some first → entries_in slots
            (insert_entry cmp es key number) ≡ insert_entry cmp (entries_in slots es) key stored
            → (o : Ordering) → cmp key e.0 ≡ o
            → entries_in slots (match_ordering (cmp key e.0) ((key, number) ∷ e ∷ es) ((e.0, number) ∷ es) (e ∷ insert_entry cmp es key number))
            ≡ insert_entry cmp (entry_in e.0 (slot_at slots e.1) ++ entries_in slots es) key stored
        by first first_is others Less o_is = rw (o_is, first_is, is, o_is) refl
        by first first_is others Equal o_is = rw (o_is, first_is, is, o_is) refl
        by first first_is others Greater o_is = rw (o_is, first_is, others, o_is) refl

    own-insert : (key : K) (number : ℕ) (es : List (K × ℕ)) → option_map key_of (slot_at slots number) ≡ Some key
        → HaveOwn key_of slots es → HaveOwn key_of slots (insert_entry cmp es key number)
    own-insert key number [] here own = (here, tt)
    own-insert key number (e ∷ es) here own = by (own-insert key number es here own.1) (cmp key e.0) refl
      where
        by : HaveOwn key_of slots (insert_entry cmp es key number) → (o : Ordering) → cmp key e.0 ≡ o
            → HaveOwn key_of slots (match_ordering (cmp key e.0) ((key, number) ∷ e ∷ es) ((e.0, number) ∷ es) (e ∷ insert_entry cmp es key number))
        by others Less is = rw is (here, own)
        by others Equal is = rw is (here ∙ ap (λ (k : K). Some k) (order.same key e.0 is), own.1)
        by others Greater is = rw is (own.0, others)

    remove-entries : (test : K → Bool) (es : List (K × ℕ)) → HaveOwn key_of slots es
        → entries_in slots (remove_entry test es) ≡ remove_entry test (entries_in slots es)
    remove-entries test [] own = refl
    remove-entries test (e ∷ es) own =
        let here = in_slot (slot_at slots e.1) e.0 own.0 in
        by here.0 here.1 (remove-entries test es own.1) (test e.0) refl
      where
        by : (stored : V) → slot_at slots e.1 ≡ Some stored → entries_in slots (remove_entry test es) ≡ remove_entry test (entries_in slots es)
            → (b : Bool) → test e.0 ≡ b
            → entries_in slots (cond (test e.0) es (e ∷ remove_entry test es))
            ≡ remove_entry test (entry_in e.0 (slot_at slots e.1) ++ entries_in slots es)
        by stored is others true test_is = rw (is, test_is) refl
        by stored is others false test_is = rw (is, test_is, is, others) refl

    own-remove : (test : K → Bool) (es : List (K × ℕ)) → HaveOwn key_of slots es → HaveOwn key_of slots (remove_entry test es)
    own-remove test [] own = tt
    own-remove test (e ∷ es) own = by (own-remove test es own.1) (test e.0)
      where
        by : HaveOwn key_of slots (remove_entry test es) → (b : Bool) → HaveOwn key_of slots (cond b es (e ∷ remove_entry test es))
        by others true = own.1
        by others false = (own.0, others)

  -- the remaining ones have other keys
  left_others : (key : K) (es : List (K × ℕ)) → IsStrictlySortedBy cmp (keys_of es)
      → AllByRecursion (λ k. is_at (cmp key) k ≡ false) (keys_of (remove_entry (is_at (cmp key)) es))
  unfolding IsStrictlySortedBy
  left_others key [] sorted = tt
  left_others key (e ∷ es) sorted = by (left_others key es sorted.1) (is_at (cmp key) e.0) refl
    where
      by : AllByRecursion (λ k. is_at (cmp key) k ≡ false) (keys_of (remove_entry (is_at (cmp key)) es)) → (b : Bool) → is_at (cmp key) e.0 ≡ b
          → AllByRecursion (λ k. is_at (cmp key) k ≡ false) (keys_of (cond (is_at (cmp key) e.0) es (e ∷ remove_entry (is_at (cmp key)) es)))
      by others true is = rw is (above_others key e.0 (keys_of es) is sorted.0)
      by others false is = rw is (is, others)

  -- ---- the table after each call

  module _ (old new : List (Option V)) (number : ℕ) (same : (other : ℕ) → other ≢ number → slot_at new other ≡ slot_at old other) where
    -- adding a value
    pub inserted : (key : K) (stored : V) (es : List (K × ℕ)) → slot_at old number ≡ None → slot_at new number ≡ Some stored → HaveOwn key_of old es
        → entries_in new (insert_entry cmp es key number) ≡ insert_entry cmp (entries_in old es) key stored
    inserted key stored es vacant is own =
        let apart = vacant_apart old number es vacant own in
        insert-entries new key number stored es is (same_own old new number same es apart own)
        ∙ ap (λ (xs : List (K × V)). insert_entry cmp xs key stored) (same_entries old new number same es apart)

    pub inserted-own : (key : K) (stored : V) (es : List (K × ℕ)) → slot_at old number ≡ None
        → slot_at new number ≡ Some stored → key_of stored ≡ key → HaveOwn key_of old es
        → HaveOwn key_of new (insert_entry cmp es key number)
    inserted-own key stored es vacant is same_key own =
        own-insert new key number es (ap (option_map key_of) is ∙ ap (λ (k : K). Some k) same_key)
        (same_own old new number same es (vacant_apart old number es vacant own) own)

    left_apart : (key : K) (es : List (K × ℕ)) → lookup (is_at (cmp key)) es ≡ Some number → HaveOwn key_of old es → IsStrictlySortedBy cmp (keys_of es)
        → Apart number (remove_entry (is_at (cmp key)) es)
    left_apart key es found own sorted =
        other_apart old number key _ (found-own old key number es own found) (left_others key es sorted) (own-remove old (is_at (cmp key)) es own)

    -- removing a value
    pub removed : (key : K) (es : List (K × ℕ)) → lookup (is_at (cmp key)) es ≡ Some number → HaveOwn key_of old es → IsStrictlySortedBy cmp (keys_of es)
        → entries_in new (remove_entry (is_at (cmp key)) es) ≡ remove_entry (is_at (cmp key)) (entries_in old es)
    removed key es found own sorted =
        same_entries old new number same _ (left_apart key es found own sorted) ∙ remove-entries old (is_at (cmp key)) es own

    pub removed-own : (key : K) (es : List (K × ℕ)) → lookup (is_at (cmp key)) es ≡ Some number → HaveOwn key_of old es → IsStrictlySortedBy cmp (keys_of es)
        → HaveOwn key_of new (remove_entry (is_at (cmp key)) es)
    removed-own key es found own sorted = same_own old new number same _ (left_apart key es found own sorted) (own-remove old (is_at (cmp key)) es own)

    -- changing a value
    pub set : (key : K) (stored : V) (es : List (K × ℕ)) → lookup (is_at (cmp key)) es ≡ Some number → slot_at new number ≡ Some stored
        → HaveOwn key_of old es → IsStrictlySortedBy cmp (keys_of es)
        → entries_in new es ≡ set_value (is_at (cmp key)) (entries_in old es) stored
    unfolding IsStrictlySortedBy
    set key stored [] found is own sorted = refl
    set key stored (e ∷ es) found is own sorted =
        let here = in_slot (slot_at old e.1) e.0 own.0 in
        by here.0 here.1 (λ found'. set key stored es found' is own.1 sorted.1) (is_at (cmp key) e.0) refl found
      where
        by : (first : V) → slot_at old e.1 ≡ Some first
            → (lookup (is_at (cmp key)) es ≡ Some number → entries_in new es ≡ set_value (is_at (cmp key)) (entries_in old es) stored)
            → (b : Bool) → is_at (cmp key) e.0 ≡ b → cond (is_at (cmp key) e.0) (Some e.1) (lookup (is_at (cmp key)) es) ≡ Some number
            → entry_in e.0 (slot_at new e.1) ++ entries_in new es
            ≡ set_value (is_at (cmp key)) (entry_in e.0 (slot_at old e.1) ++ entries_in old es) stored
        by first first_is others true at_is found =
            let here : Some e.1 ≡ Some number = rw at_is at found in
            let number_is : e.1 ≡ number = cc in
            let apart =
            other_apart old number key es (found-own old key number (e ∷ es) own found)
            (above_others key e.0 (keys_of es) at_is sorted.0) own.1 in
            rw (first_is, at_is, number_is, is, same_entries old new number same es apart) refl
        by first first_is others false at_is found =
            let later : lookup (is_at (cmp key)) es ≡ Some number = rw at_is at found in
            let first_apart : e.1 ≢ number = λ number_is. never number_is later in
            rw (same e.1 first_apart, first_is, at_is, others later) refl
          where
            never : e.1 ≡ number → lookup (is_at (cmp key)) es ≡ Some number → ⊥
            never number_is later =
                let key_is : Some key ≡ Some e.0 =
                sym (found-own old key number es own.1 later)
                ∙ ap (λ n. option_map key_of (slot_at old n)) (sym number_is) ∙ own.0 in
                let same_key : key ≡ e.0 = cc in
                let no : true ≡ false = sym (is_at-own order key) ∙ ap (is_at (cmp key)) same_key ∙ at_is in
                absurd cc
