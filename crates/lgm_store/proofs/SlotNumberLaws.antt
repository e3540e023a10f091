-- That slots and the tree stay numbered alike, after each operation.
use Rattle.std.proofs.Common.{◌≡◌, ◌≢◌, ℕ, Bool, true, false, cond, List, [], ◌∷◌, Option}
use Rattle.std.proofs.Common.{Some, None, refl, sym, ap, ◌∙◌, inl, inr}
use Rattle.std.specs.Prelude.{is_some}
use Rattle.std.specs.Option.{option_map, option_and_then}
use Rattle.std.specs.List.Sorted.{IsStrictlySortedBy}
use Rattle.std.specs.Map.{lookup, remove_entry, set_value, keys_of}
use Rattle.std.specs.BTreeMap.{is_at, insert_entry}
use Rattle.std.specs.declared.cmp.Ordering.{Ordering}
use Rattle.std.proofs.lemmas.Bool.{cases_eq}
use Rattle.slab.specs.Slab.{Slab, with_value, Updates}
use Rattle.slab.proofs.SlabLemmas.{Updates-with_value}
use Rattle.lgm_store.specs.inner.Slots.{slot_at, entries_in, HaveOwn, IsNumbered, IsAdded, IsFound}
use Rattle.lgm_store.proofs.Ordered.{insert-set}
use Rattle.lgm_store.proofs.KeyOrder.{IsKeyOrder, same_at, is_at-own}
use Rattle.lgm_store.proofs.Slotted.{in_slot, inserted, inserted-own, removed-own, lookup-slots, found-own, keys-slots, set}

module _ {K V : Type 0} {cmp : K → K → Ordering} (order : IsKeyOrder cmp) (key_of : V → K) where
  -- ---- the invariant

  numbered-insert : (old new : Slab V) (numbers numbers' : List (K × ℕ)) (key : K) (number : ℕ) (stored : V) → Updates old new number (Some stored)
      → slot_at old.slots number ≡ None → key_of stored ≡ key → lookup (is_at (cmp key)) numbers ≡ None
      → numbers' ≡ insert_entry cmp numbers key number → IsStrictlySortedBy cmp (keys_of numbers')
      → ((q : K) → lookup (is_at (cmp q)) numbers' ≡ cond (is_at (cmp key) q) (Some number) (lookup (is_at (cmp q)) numbers))
      → IsNumbered cmp key_of old.slots numbers → IsNumbered cmp key_of new.slots numbers'
  numbered-insert old new numbers numbers' key number stored updates vacant own_id none is ascend finds sound = record {
    own = rw is (inserted-own order key_of old.slots new.slots number updates.others key stored numbers vacant updates.changed own_id sound.own);
    listed = λ n k here. elim (cases_eq n number) [
      | inl same ↦
          let its : option_map key_of (slot_at new.slots number) ≡ Some k = ap (λ m. option_map key_of (slot_at new.slots m)) (sym same) ∙ here in
          let mine : Some key ≡ Some k = ap (λ (j : K). Some j) (sym own_id) ∙ ap (option_map key_of) (sym updates.changed) ∙ its in
          let id_is : key ≡ k = cc in
          finds k ∙ rw (← id_is, is_at-own order key) (ap (λ (j : ℕ). Some j) (sym same))
      | inr apart ↦
          let before : lookup (is_at (cmp k)) numbers ≡ Some n = sound.listed n k (ap (option_map key_of) (sym (updates.others n apart)) ∙ here) in
          finds k ∙ other k n before (is_at (cmp key) k) refl
    ];
    ascend = ascend;
  }
    where
      other : (k : K) (n : ℕ) → lookup (is_at (cmp k)) numbers ≡ Some n → (b : Bool) → is_at (cmp key) k ≡ b
          → cond (is_at (cmp key) k) (Some number) (lookup (is_at (cmp k)) numbers) ≡ Some n
      other k n before true here =
          let never : None ≡ Some n = sym none ∙ ap (λ j. lookup (is_at (cmp j)) numbers) (same_at order key k here) ∙ before in
          absurd cc
      other k n before false here = rw here before

  pub numbered-remove : (old new : Slab V) (numbers numbers' : List (K × ℕ)) (key : K) (number : ℕ) → Updates old new number None
      → lookup (is_at (cmp key)) numbers ≡ Some number
      → numbers' ≡ remove_entry (is_at (cmp key)) numbers → IsStrictlySortedBy cmp (keys_of numbers')
      → ((q : K) → lookup (is_at (cmp q)) numbers' ≡ cond (is_at (cmp key) q) None (lookup (is_at (cmp q)) numbers))
      → IsNumbered cmp key_of old.slots numbers → IsNumbered cmp key_of new.slots numbers'
  numbered-remove old new numbers numbers' key number updates found is ascend finds sound = record {
    own = rw is (removed-own order key_of old.slots new.slots number updates.others key numbers found sound.own sound.ascend);
    listed = λ n k here. elim (cases_eq n number) [
      | inl same ↦
          let never : None ≡ Some k =
          ap (option_map key_of) (sym updates.changed)
          ∙ ap (λ m. option_map key_of (slot_at new.slots m)) (sym same) ∙ here in
          absurd cc
      | inr apart ↦
          let before : lookup (is_at (cmp k)) numbers ≡ Some n = sound.listed n k (ap (option_map key_of) (sym (updates.others n apart)) ∙ here) in
          finds k ∙ other k n apart before (is_at (cmp key) k) refl
    ];
    ascend = ascend;
  }
    where
      other : (k : K) (n : ℕ) → n ≢ number → lookup (is_at (cmp k)) numbers ≡ Some n → (b : Bool) → is_at (cmp key) k ≡ b
          → cond (is_at (cmp key) k) None (lookup (is_at (cmp k)) numbers) ≡ Some n
      other k n apart before true here =
          let both : Some n ≡ Some number = sym before ∙ ap (λ j. lookup (is_at (cmp j)) numbers) (sym (same_at order key k here)) ∙ found in
          let same : n ≡ number = cc in
          absurd (apart same)
      other k n apart before false here = rw here before

  module _ (s : Slab V) (numbers : List (K × ℕ)) (number : ℕ) (stored written : V)
      (sound : IsNumbered cmp key_of s.slots numbers) (is : slot_at s.slots number ≡ Some stored)
      (same_id_in : key_of written ≡ key_of stored) where
    abbrev after : List (Option V)
    after = (with_value s number written).slots

    updates : Updates s (with_value s number written) number (Some written)
    updates = Updates-with_value s number written (rw is refl)

    same_ids : (n : ℕ) → option_map key_of (slot_at after n) ≡ option_map key_of (slot_at s.slots n)
    same_ids n = elim (cases_eq n number) [
      | inl here ↦ rw here (ap (option_map key_of) updates.changed ∙ ap (λ (k : K). Some k) same_id_in ∙ ap (option_map key_of) (sym is))
      | inr apart ↦ ap (option_map key_of) (updates.others n apart)
    ]

    pub numbered-put : IsNumbered cmp key_of after numbers
    numbered-put = record {
      own = along numbers sound.own;
      listed = λ n k here. sound.listed n k (sym (same_ids n) ∙ here);
      ascend = sound.ascend;
    }
      where
        along : (es : List (K × ℕ)) → HaveOwn key_of s.slots es → HaveOwn key_of after es
        along [] own = tt
        along (e ∷ es) own = (same_ids e.1 ∙ own.0, along es own.1)

    pub entries-put : (key : K) → lookup (is_at (cmp key)) numbers ≡ Some number
        → entries_in after numbers ≡ set_value (is_at (cmp key)) (entries_in s.slots numbers) written
    entries-put key found = set order key_of s.slots after number updates.others key written numbers found updates.changed sound.own sound.ascend

  -- the value of a key
  pub found-stored : (slots : List (Option V)) (numbers : List (K × ℕ)) (entries : List (K × V))
      (key : K) (number : ℕ) (stored : V) → HaveOwn key_of slots numbers
      → entries_in slots numbers ≡ entries → lookup (is_at (cmp key)) numbers ≡ Some number → slot_at slots number ≡ Some stored
      → lookup (is_at (cmp key)) entries ≡ Some stored
  found-stored slots numbers entries key number stored own view_is found is =
      ap (lookup (is_at (cmp key))) (sym view_is) ∙ lookup-slots order key_of slots (is_at (cmp key)) numbers own
      ∙ ap (option_and_then (slot_at slots)) found ∙ is

  pub found-none : (slots : List (Option V)) (numbers : List (K × ℕ)) (entries : List (K × V)) (key : K) → HaveOwn key_of slots numbers
      → entries_in slots numbers ≡ entries → lookup (is_at (cmp key)) numbers ≡ None → lookup (is_at (cmp key)) entries ≡ None
  found-none slots numbers entries key own view_is none =
      ap (lookup (is_at (cmp key))) (sym view_is) ∙ lookup-slots order key_of slots (is_at (cmp key)) numbers own ∙ ap (option_and_then (slot_at slots)) none

  pub has-slot : (slots : List (Option V)) (numbers : List (K × ℕ)) (key : K) (number : ℕ) → HaveOwn key_of slots numbers
      → lookup (is_at (cmp key)) numbers ≡ Some number
      → is_some (slot_at slots number) ≡ true
  has-slot slots numbers key number own found =
      let here = in_slot order key_of (slot_at slots number) key (found-own order key_of slots key number numbers own found) in
      rw here.1 refl

  pub found-held : (slots : List (Option V)) (numbers : List (K × ℕ)) (entries : List (K × V)) (key : K) (number : ℕ) → HaveOwn key_of slots numbers
      → entries_in slots numbers ≡ entries → lookup (is_at (cmp key)) numbers ≡ Some number
      → is_some (lookup (is_at (cmp key)) entries) ≡ true
  found-held slots numbers entries key number own view_is found =
      let here = in_slot order key_of (slot_at slots number) key (found-own order key_of slots key number numbers own found) in
      ap is_some (found-stored slots numbers entries key number here.0 own view_is found here.1)

  pub ascend-slots : (slots : List (Option V)) (numbers : List (K × ℕ)) → HaveOwn key_of slots numbers → IsStrictlySortedBy cmp (keys_of numbers)
      → IsStrictlySortedBy cmp (keys_of (entries_in slots numbers))
  ascend-slots slots numbers own ascend = rw (keys-slots order key_of slots numbers own) ascend

  -- ---- a value put under its key

  pub record IsPut (slots : List (Option V)) (numbers : List (K × ℕ)) (before : List (K × V)) (key : K) (value : V) : Type 0 where
    pub numbered : IsNumbered cmp key_of slots numbers
    pub view : entries_in slots numbers ≡ insert_entry cmp before key value
    pub sorted : IsStrictlySortedBy cmp (keys_of (entries_in slots numbers))

  -- under a new key
  pub put-added : (old new : Slab V) (numbers numbers' : List (K × ℕ)) (before : List (K × V)) (key : K) (value : V)
      → IsAdded cmp old new numbers numbers' key value → IsNumbered cmp key_of old.slots numbers
      → entries_in old.slots numbers ≡ before → key_of value ≡ key → IsPut new.slots numbers' before key value
  put-added old new numbers numbers' before key value added sound view_is own =
      let after : IsNumbered cmp key_of new.slots numbers' =
      numbered-insert old new numbers numbers' key added.number value added.updates added.vacant own added.none added.entries
      added.ascend added.finds sound in
      record {
        numbered = after;
        view =
            ap (λ (es : List (K × ℕ)). entries_in new.slots es) added.entries
            ∙ inserted order key_of old.slots new.slots added.number added.updates.others key value numbers added.vacant
            added.updates.changed sound.own
            ∙ ap (λ (es : List (K × V)). insert_entry cmp es key value) view_is;
        sorted = ascend-slots new.slots numbers' after.own after.ascend;
      }

  -- in the slot of its key
  pub put-written : (s : Slab V) (numbers : List (K × ℕ)) (before : List (K × V)) (key : K) (number : ℕ) (stored value : V)
      → IsNumbered cmp key_of s.slots numbers → entries_in s.slots numbers ≡ before
      → lookup (is_at (cmp key)) numbers ≡ Some number → slot_at s.slots number ≡ Some stored → key_of value ≡ key
      → IsPut (with_value s number value).slots numbers before key value
  put-written s numbers before key number stored value sound view_is found is own =
      let here : Some key ≡ Some (key_of stored) =
      sym (found-own order key_of s.slots key number numbers sound.own found) ∙ ap (option_map key_of) is in
      let its : key ≡ key_of stored = cc in
      let same : key_of value ≡ key_of stored = own ∙ its in
      let after : IsNumbered cmp key_of (with_value s number value).slots numbers =
      numbered-put s numbers number stored value sound is same in
      record {
        numbered = after;
        view =
            entries-put s numbers number stored value sound is same key found
            ∙ ap (λ (es : List (K × V)). set_value (is_at (cmp key)) es value) view_is
            ∙ sym (insert-set order.total key value stored before
            (rw view_is at (ascend-slots s.slots numbers sound.own sound.ascend))
            (found-stored s.slots numbers before key number stored sound.own view_is found is));
        sorted = ascend-slots (with_value s number value).slots numbers after.own after.ascend;
      }

  -- in the slot that was found
  pub put-found : (old new : Slab V) (numbers numbers' : List (K × ℕ)) (before : List (K × V)) (key : K) (value : V) (found : ℕ × V)
      → IsFound cmp old new numbers numbers' key value found → IsNumbered cmp key_of old.slots numbers
      → entries_in old.slots numbers ≡ before → key_of value ≡ key
      → IsPut (with_value new found.0 found.1).slots numbers' before key value
  put-found old new numbers numbers' before key value found is_found sound view_is own =
      let sound' : IsNumbered cmp key_of new.slots numbers' = rw (is_found.same_slots, is_found.same_numbers) sound in
      let view' : entries_in new.slots numbers' ≡ before = rw (is_found.same_slots, is_found.same_numbers) view_is in
      let own' : lookup (is_at (cmp key)) numbers' ≡ Some found.0 = rw is_found.same_numbers is_found.own in
      let here = in_slot order key_of (slot_at new.slots found.0) key (found-own order key_of new.slots key found.0 numbers' sound'.own own') in
      rw is_found.same_value (put-written new numbers' before key found.0 here.0 value sound' view' own' here.1 own)

  pub has-found : (old new : Slab V) (numbers numbers' : List (K × ℕ)) (key : K) (value : V) (found : ℕ × V)
      → IsFound cmp old new numbers numbers' key value found → IsNumbered cmp key_of old.slots numbers
      → is_some (slot_at new.slots found.0) ≡ true
  has-found old new numbers numbers' key value found is_found sound =
      rw is_found.same_slots (has-slot old.slots numbers key found.0 sound.own is_found.own)

  -- the value that was there
  pub found-value : (old new : Slab V) (numbers numbers' : List (K × ℕ)) (before : List (K × V)) (key : K) (value stored : V) (found : ℕ × V)
      → IsFound cmp old new numbers numbers' key value found → IsNumbered cmp key_of old.slots numbers
      → entries_in old.slots numbers ≡ before → slot_at new.slots found.0 ≡ Some stored
      → lookup (is_at (cmp key)) before ≡ Some stored
  found-value old new numbers numbers' before key value stored found is_found sound view_is here =
      found-stored old.slots numbers before key found.0 stored sound.own view_is is_found.own (rw is_found.same_slots at here)
