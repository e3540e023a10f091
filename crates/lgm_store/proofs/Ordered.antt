-- Ordered maps and their rows: looking a row up, and inserting one.
use Rattle.std.proofs.Common.{◌≡◌, Bool, true, false, not, cond, List, [], ◌∷◌, Some, None, refl, sym, ap, ◌∙◌}
use Rattle.std.specs.List.{AllByRecursion, filter, find}
use Rattle.std.specs.Map.{lookup, remove_entry, set_value, keys_of, values_of}
use Rattle.std.specs.BTreeMap.{is_at, insert_entry}
use Rattle.std.specs.List.Sorted.{IsStrictlySortedBy}
use Rattle.std.specs.Cmp.{IsTotalOrder}
use Rattle.std.specs.declared.cmp.Ordering.{Ordering}
use Rattle.std.specs.declared.cmp.Ordering.TheVariants.{Less, Equal, Greater}
use Rattle.std.specs.Ordering.{is_lt, is_gt, is_eq, ordering_reverse, match_ordering}
use Rattle.lgm_store.specs.Keys.{IsKeyed}
use Rattle.lgm_store.specs.Rows.{put}

module _ {K R : Type 0} (cmp : K → K → Ordering) (key : R → K) where
  -- the row of a key, found among the rows
  pub lookup-find : (test : K → Bool) (entries : List (K × R)) → IsKeyed key entries
      → lookup test entries ≡ find (λ row. test (key row)) (values_of entries)
  lookup-find test [] keyed = refl
  lookup-find test (e ∷ es) keyed = rw (keyed.0, lookup-find test es keyed.1) refl

  -- the order of rows by their keys
  abbrev pub by_key : R → R → Ordering
  by_key a b = cmp (key a) (key b)

  -- rows above a row
  record AreAbove (row : R) (rows : List R) : Type 0 where
    lesser : filter (λ other. is_lt (by_key other row)) rows ≡ []
    greater : filter (λ other. is_gt (by_key other row)) rows ≡ rows

  are_above : IsTotalOrder cmp → (row : R) (entries : List (K × R)) → IsKeyed key entries
      → AllByRecursion (λ k. cmp (key row) k ≡ Less) (keys_of entries) → AreAbove row (values_of entries)
  are_above total row [] keyed above = record { lesser = refl; greater = refl }
  are_above total row (e ∷ es) keyed above =
      let others = are_above total row es keyed.1 above.1 in
      let here : cmp (key e.1) (key row) ≡ Greater =
      total.antisymm (key e.1) (key row) ∙ ap (λ (k : K). ordering_reverse (cmp (key row) k)) (sym keyed.0)
      ∙ ap ordering_reverse above.0 in
      record {
        lesser = rw here others.lesser;
        greater = rw (here, others.greater) refl;
      }

  -- a row is inserted where an ordered map stores it
  pub values-insert : IsTotalOrder cmp → (row : R) (entries : List (K × R)) → IsKeyed key entries
      → IsStrictlySortedBy cmp (keys_of entries)
      → values_of (insert_entry cmp entries (key row) row) ≡ put by_key (values_of entries) row
  unfolding IsStrictlySortedBy
  values-insert total row [] keyed sorted = refl
  values-insert total row (e ∷ es) keyed sorted = by (values-insert total row es keyed.1 sorted.1) (cmp (key row) e.0) refl
    where
      turned : (o : Ordering) → cmp (key row) e.0 ≡ o → cmp (key e.1) (key row) ≡ ordering_reverse o
      turned o is = total.antisymm (key e.1) (key row) ∙ ap (λ (k : K). ordering_reverse (cmp (key row) k)) (sym keyed.0) ∙ ap ordering_reverse is

      above : ((k : K) → cmp e.0 k ≡ Less → cmp (key row) k ≡ Less) → (fs : List (K × R))
          → AllByRecursion (λ k. cmp e.0 k ≡ Less) (keys_of fs) → AllByRecursion (λ k. cmp (key row) k ≡ Less) (keys_of fs)
      above less [] a = tt
      above less (f ∷ fs) a = (less f.0 a.0, above less fs a.1)

      by : values_of (insert_entry cmp es (key row) row) ≡ put by_key (values_of es) row → (o : Ordering)
          → cmp (key row) e.0 ≡ o → values_of (match_ordering o ((key row, row) ∷ e ∷ es) ((e.0, row) ∷ es) (e
          ∷ insert_entry cmp es (key row) row)) ≡ put by_key (e.1 ∷ values_of es) row
      by others Less is =
          let t = turned Less is in
          let a = are_above total row es keyed.1 (above (λ k. total.trans (key row) e.0 k is) es sorted.0) in
          rw (t, a.lesser, a.greater) refl
      by others Equal is =
          let t = turned Equal is in
          let a = are_above total row es keyed.1 (above (λ k less. total.congr (key row) e.0 k is ∙ less) es sorted.0) in
          rw (t, a.lesser, a.greater) refl
      by others Greater is =
          let t = turned Greater is in
          rw (t, others) refl

  -- the map is still keyed
  pub IsKeyed-insert : (row : R) (entries : List (K × R)) → ((a b : K) → cmp a b ≡ Equal → a ≡ b)
      → IsKeyed key entries → IsKeyed key (insert_entry cmp entries (key row) row)
  IsKeyed-insert row [] same keyed = (refl, tt)
  IsKeyed-insert row (e ∷ es) same keyed = by (IsKeyed-insert row es same keyed.1) (cmp (key row) e.0) refl
    where
      by : IsKeyed key (insert_entry cmp es (key row) row) → (o : Ordering) → cmp (key row) e.0 ≡ o
          → IsKeyed key (match_ordering o ((key row, row) ∷ e ∷ es) ((e.0, row) ∷ es)
          (e ∷ insert_entry cmp es (key row) row))
      by others Less is = (refl, keyed)
      by others Equal is = (sym (same (key row) e.0 is), keyed.1)
      by others Greater is = (keyed.0, others)

  -- rows above a key all stay if it is removed
  stay : (k : K) (entries : List (K × R)) → IsKeyed key entries → AllByRecursion (λ other. cmp k other ≡ Less) (keys_of entries)
      → filter (λ row. not (is_eq (cmp k (key row)))) (values_of entries) ≡ values_of entries
  stay k [] keyed above = refl
  stay k (e ∷ es) keyed above =
      let here : cmp k (key e.1) ≡ Less = ap (cmp k) (sym keyed.0) ∙ above.0 in
      rw (here, stay k es keyed.1 above.1) refl

  -- removing a key removes its row
  pub values-remove : IsTotalOrder cmp → (k : K) (entries : List (K × R)) → IsKeyed key entries → IsStrictlySortedBy cmp (keys_of entries)
      → values_of (remove_entry (is_at (cmp k)) entries) ≡ filter (λ row. not (is_eq (cmp k (key row)))) (values_of entries)
  unfolding IsStrictlySortedBy
  values-remove total k [] keyed sorted = refl
  values-remove total k (e ∷ es) keyed sorted = by (values-remove total k es keyed.1 sorted.1) (cmp k e.0) refl
    where
      here : (o : Ordering) → cmp k e.0 ≡ o → cmp k (key e.1) ≡ o
      here o is = ap (cmp k) (sym keyed.0) ∙ is

      above : cmp k e.0 ≡ Equal → (fs : List (K × R)) → AllByRecursion (λ other. cmp e.0 other
          ≡ Less) (keys_of fs) → AllByRecursion (λ other. cmp k other ≡ Less) (keys_of fs)
      above is [] a = tt
      above is (f ∷ fs) a = (total.congr k e.0 f.0 is ∙ a.0, above is fs a.1)

      by : values_of (remove_entry (is_at (cmp k)) es) ≡ filter (λ row. not (is_eq (cmp k (key row)))) (values_of es)
          → (o : Ordering) → cmp k e.0 ≡ o
          → values_of (cond (is_eq (cmp k e.0)) es (e ∷ remove_entry (is_at (cmp k)) es))
          ≡ filter (λ row. not (is_eq (cmp k (key row)))) (e.1 ∷ values_of es)
      by others Less is = rw (is, here Less is, others) refl
      by others Equal is = rw (is, here Equal is, stay k es keyed.1 (above is es sorted.0)) refl
      by others Greater is = rw (is, here Greater is, others) refl

  -- the map is still keyed
  pub IsKeyed-remove : (test : K → Bool) (entries : List (K × R)) → IsKeyed key entries → IsKeyed key (remove_entry test entries)
  IsKeyed-remove test [] keyed = tt
  IsKeyed-remove test (e ∷ es) keyed = by (IsKeyed-remove test es keyed.1) (test e.0)
    where
      by : IsKeyed key (remove_entry test es) → (b : Bool) → IsKeyed key (cond b es (e ∷ remove_entry test es))
      by others true = keyed.1
      by others false = (keyed.0, others)

module _ {K X : Type 0} {cmp : K → K → Ordering} (total : IsTotalOrder cmp) where
  -- nothing is found below all keys
  pub lookup-below : (a b : K) (es : List (K × X)) → cmp a b ≡ Less
      → AllByRecursion (λ k. cmp b k ≡ Less) (keys_of es) → lookup (is_at (cmp a)) es ≡ None
  lookup-below a b [] less above = refl
  lookup-below a b (e ∷ es) less above = rw (total.trans a b e.0 less above.0) (lookup-below a b es less above.1)

  -- inserting under a key that is there replaces its value
  pub insert-set : (key : K) (value own : X) (es : List (K × X)) → IsStrictlySortedBy cmp (keys_of es) → lookup (is_at (cmp key)) es ≡ Some own
      → insert_entry cmp es key value ≡ set_value (is_at (cmp key)) es value
  unfolding IsStrictlySortedBy
  insert-set key value own [] sorted found = absurd cc
  insert-set key value own (e ∷ es) sorted found = by (insert-set key value own es sorted.1) (cmp key e.0) refl found
    where
      by : (lookup (is_at (cmp key)) es ≡ Some own → insert_entry cmp es key value ≡ set_value (is_at (cmp key)) es value)
          → (o : Ordering) → cmp key e.0 ≡ o → cond (is_eq (cmp key e.0)) (Some e.1) (lookup (is_at (cmp key)) es) ≡ Some own
          → match_ordering (cmp key e.0) ((key, value) ∷ e ∷ es) ((e.0, value) ∷ es) (e ∷ insert_entry cmp es key value)
          ≡ cond (is_eq (cmp key e.0)) ((e.0, value) ∷ es) (e ∷ set_value (is_at (cmp key)) es value)
      by rest Less is found =
          let here : lookup (is_at (cmp key)) es ≡ Some own = rw is at found in
          let never : None ≡ Some own = sym (lookup-below key e.0 es is sorted.0) ∙ here in
          absurd cc
      by rest Equal is found = rw is refl
      by rest Greater is found = rw is (ap (λ (xs : List (K × X)). e ∷ xs) (rest (rw is at found)))

  -- a value that is put back in place of another one
  put-back-in : (key : K) (value own : X) (es : List (K × X)) → IsStrictlySortedBy cmp (keys_of es) → lookup (is_at (cmp key)) es ≡ Some own
      → insert_entry cmp (insert_entry cmp es key value) key own ≡ es
  unfolding IsStrictlySortedBy
  put-back-in key value own [] sorted found = absurd cc
  put-back-in key value own (e ∷ es) sorted found = by (put-back-in key value own es sorted.1) (cmp key e.0) refl found
    where
      by : (lookup (is_at (cmp key)) es ≡ Some own → insert_entry cmp (insert_entry cmp es key value) key own ≡ es)
          → (o : Ordering) → cmp key e.0 ≡ o → cond (is_eq (cmp key e.0)) (Some e.1) (lookup (is_at (cmp key)) es) ≡ Some own
          → insert_entry cmp (match_ordering (cmp key e.0) ((key, value) ∷ e ∷ es) ((e.0, value) ∷ es)
          (e ∷ insert_entry cmp es key value)) key own ≡ e ∷ es
      by rest Less is found =
          let here : lookup (is_at (cmp key)) es ≡ Some own = rw is at found in
          let never : None ≡ Some own = sym (lookup-below key e.0 es is sorted.0) ∙ here in
          absurd cc
      by rest Equal is found =
          let its : Some e.1 ≡ Some own = rw is at found in
          let own_is : e.1 ≡ own = cc in
          rw (is, is, ← own_is) refl
      by rest Greater is found = rw is (rw is (ap (λ (xs : List (K × X)). e ∷ xs) (rest (rw is at found))))

  pub put-back : (es changed back : List (K × X)) (key : K) (value own : X) → changed ≡ insert_entry cmp es key value
      → back ≡ insert_entry cmp changed key own → IsStrictlySortedBy cmp (keys_of es)
      → lookup (is_at (cmp key)) es ≡ Some own → back ≡ es
  put-back es changed back key value own changed_is back_is sorted found =
      back_is ∙ ap (λ (xs : List (K × X)). insert_entry cmp xs key own) changed_is ∙ put-back-in key value own es sorted found
