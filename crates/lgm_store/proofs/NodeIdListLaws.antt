-- The lists of channel ids of each point.
use Rattle.std.proofs.Common.{◌≡◌, ℕ, Bool, true, false, cond, ◌||◌, List, [], ◌∷◌, Some, None, unwrap_or, refl, sym, ap, ◌∙◌, arith}
use Rattle.std.specs.Prelude.{if◌then◌else◌}
use Rattle.std.specs.List.{list_any}
use Rattle.std.specs.Set.{remove_key}
use Rattle.std.specs.BTreeMap.{is_at}
use Rattle.std.specs.BTreeSet.{insert_key}
use Rattle.std.specs.declared.cmp.Ordering.{Ordering}
use Rattle.std.specs.declared.cmp.Ordering.TheVariants.{Less, Equal, Greater}
use Rattle.std.specs.Ordering.{is_eq, nat_cmp, match_ordering}
use Rattle.std.proofs.lemmas.Cmp.{nat_list_eq_equiv}
use Rattle.std.proofs.lemmas.Bool.Decides.{nat_tests}
use Rattle.lgm_wire.specs.declared.point.Point.{Point}
use Rattle.lgm_store.specs.Rows.{is_point}
use Rattle.lgm_store.proofs.Points.{same_point, is_point-self}
use Rattle.std.specs.Prelude.{slice_get}
use Rattle.std.specs.Cmp.{IsEquivalence}
use Rattle.std.specs.Map.{lookup_key, keys_of}
use Rattle.std.proofs.Common.{inl, inr, ◌-◌, length, map, take, position, Option}
use Rattle.std.specs.Prelude.{swap_remove, slice_set, slice_index_or}
use Rattle.std.proofs.lemmas.List.{take-map, map-set, length-map}
use Rattle.std.proofs.Math.ListN.{get_or-map}
use Rattle.indexmap.specs.IndexMap.{swap_remove_entry}
use Rattle.indexmap.specs.IndexMap.{IndexMap, IsUnique, with_value_at}
use Rattle.indexmap.proofs.CallerLemmas.{updates-with_value_at}
use Rattle.lgm_store.specs.inner.ChannelsByNode.{with_id, without_id, entry_of, list_at, kept, IsSame, Sets, Lists, Lacks, changed, IsPlaceOf, MovesLastAlone}

-- ---- inserting and removing keys

-- removing a key that was inserted
pub remove_key-insert : {K : Type 0} (cmp : K → K → Ordering) (k : K) → is_at (cmp k) k ≡ true → (ks : List K) → list_any (is_at (cmp k)) ks ≡ false
    → remove_key (is_at (cmp k)) (insert_key cmp ks k) ≡ ks
remove_key-insert {K} cmp k own [] lacks = rw own refl
remove_key-insert {K} cmp k own (x ∷ xs) lacks = by (remove_key-insert cmp k own xs) (cmp k x) refl lacks
  where
    by : (list_any (is_at (cmp k)) xs ≡ false → remove_key (is_at (cmp k)) (insert_key cmp xs k) ≡ xs)
        → (o : Ordering) → cmp k x ≡ o → (is_eq (cmp k x) || list_any (is_at (cmp k)) xs) ≡ false
        → remove_key (is_at (cmp k)) (match_ordering (cmp k x) (k ∷ x ∷ xs) (x ∷ xs) (x ∷ insert_key cmp xs k)) ≡ x ∷ xs
    by others Less is lacks = rw (is, own) refl
    by others Equal is lacks = let never : true ≡ false = rw is at lacks in absurd cc
    by others Greater is lacks =
        let rest : list_any (is_at (cmp k)) xs ≡ false = rw is at lacks in
        let past : is_at (cmp k) x ≡ false = rw is refl in
        rw is (rw (past, others rest) refl)

pub is_at-id : (id : ℕ) → is_at (nat_cmp id) id ≡ true
is_at-id id = grind (arith, nat_tests)

pub without-with : (ids : List ℕ) (id : ℕ) → list_any (is_at (nat_cmp id)) ids ≡ false → without_id (with_id ids id) id ≡ ids
without-with ids id lacks = remove_key-insert nat_cmp id (is_at-id id) ids lacks

-- a list with one more id has an entry
pub kept-with : (ids : List ℕ) (id : ℕ) → kept (with_id ids id) ≡ Some (with_id ids id)
kept-with [] id = refl
kept-with (x ∷ xs) id = by (nat_cmp id x)
  where
    by : (o : Ordering) → kept (match_ordering o (id ∷ x ∷ xs) (x ∷ xs) (x ∷ with_id xs id))
        ≡ Some (match_ordering o (id ∷ x ∷ xs) (x ∷ xs) (x ∷ with_id xs id))
    by Less = refl
    by Equal = refl
    by Greater = refl

-- ---- removing an entry

-- the keys behind an entry that is removed, whose place the last one takes
keys-swap_remove : {K X : Type 0} (es : List (K × X)) (i : ℕ) (e : K × X) → keys_of (swap_remove es i e) ≡ swap_remove (keys_of es) i e.0
keys-swap_remove {K} {X} es i e =
    let key : K × X → K = λ p. p.0 in
    let last = length es - 1 in
    rw (length-map es key) (sym (take-map key last (slice_set es i (slice_index_or es last e)))
    ∙ ap (take last) (map-set key es i (slice_index_or es last e) ∙ ap (slice_set (map key es) i) (sym (get_or-map key es last e))))

-- whichever entry is removed of those with the same keys, at most the last one moves
pub moves-removed : (test : Point → Bool) (old es new : List (Point × List ℕ)) → keys_of es ≡ keys_of old
    → new ≡ swap_remove_entry test es → MovesLastAlone old new
moves-removed test old [] new same is = inl (rw is same)
moves-removed test old (e ∷ es) new same is = by (position test (keys_of (e ∷ es))) refl
  where
    by : (found : Option ℕ) → position test (keys_of (e ∷ es)) ≡ found → MovesLastAlone old new
    by None none = inl (ap keys_of is ∙ rw none same)
    by (Some i) some = inr (i, e.0, ap keys_of is ∙ rw some (keys-swap_remove (e ∷ es) i e ∙ ap (λ ks. swap_remove ks i e.0) same))

-- ---- lists at points

-- reading an entry as a list
pub unwrap_or-kept : (ids : List ℕ) → unwrap_or (kept ids) [] ≡ ids
unwrap_or-kept [] = refl
unwrap_or-kept (id ∷ ids) = refl

-- the list of a point in an index
pub list_at-lists : (entries : List (Point × List ℕ)) (ids : Point → List ℕ) (p : Point) → Lists entries ids → list_at entries p ≡ ids p
list_at-lists entries ids p lists = rw (lists p) (unwrap_or-kept (ids p))

list_at-here : (old mid : List (Point × List ℕ)) (p : Point) (list : List ℕ) → Sets old mid p list → list_at mid p ≡ list
list_at-here old mid p list sets = ap (λ o. unwrap_or o []) (rw is_point-self at (sets p)) ∙ unwrap_or-kept list

-- an index in which a point has another list
Lists-set : (old new : List (Point × List ℕ)) (p : Point) (list : List ℕ) (ids other : Point → List ℕ) → Sets old new p list
    → Lists old ids → list ≡ other p → ((q : Point) → is_point p q ≡ false → ids q ≡ other q) → Lists new other
Lists-set old new p list ids other sets lists here apart q = by (is_point p q) refl
  where
    by : (b : Bool) → is_point p q ≡ b → entry_of new q ≡ kept (other q)
    by true is = sets q ∙ rw is (ap kept here ∙ ap (λ (x : Point). kept (other x)) (same_point p q is))
    by false is = sets q ∙ rw is (lists q ∙ ap kept (apart q is))

-- lists are changed at two points that are one
pub Lists-change_same : (change : List ℕ → List ℕ) (old new : List (Point × List ℕ)) (p other : Point)
    (ids : Point → List ℕ) → is_point other p ≡ true
    → Sets old new p (change (list_at old p)) → Lists old ids → Lists new (changed change ids p other)
Lists-change_same change old new p other ids same sets lists =
    Lists-set old new p (change (list_at old p)) ids (changed change ids p other) sets lists
    (rw (is_point-self p, list_at-lists old ids p lists) refl)
    (λ q is. rw (same_point other p same, is) refl)

-- lists are changed at two points
pub Lists-change : (change : List ℕ → List ℕ) (old mid new : List (Point × List ℕ)) (first second : Point)
    (ids : Point → List ℕ) → is_point second first ≡ false
    → Sets old mid first (change (list_at old first)) → Sets mid new second (change (list_at mid second))
    → Lists old ids → Lists new (changed change ids first second)
Lists-change change old mid new first second ids apart sets sets' lists =
    let more : Point → List ℕ = λ q. if is_point first q then change (ids q) else ids q in
    let halfway : Lists mid more = Lists-set old mid first (change (list_at old first)) ids more sets lists
    (rw (is_point-self first, list_at-lists old ids first lists) refl)
    (λ q is. rw is refl) in
    let other : is_point first second ≡ false = nat_list_eq_equiv.symm first.0 second.0 ∙ apart in
    Lists-set mid new second (change (list_at mid second)) more (changed change ids first second) sets' halfway
    (rw (list_at-lists mid more second halfway, other, is_point-self second) refl)
    (λ q is. at_other q is (is_point first q) refl)
  where
    at_other : (q : Point) → is_point second q ≡ false → (b : Bool) → is_point first q ≡ b
        → (if is_point first q then change (ids q) else ids q) ≡ changed change ids first second q
    at_other q is true first_is = rw (is, first_is) refl
    at_other q is false first_is = rw (is, first_is) refl

-- inserting an id that a list lacked, and removing it again
pub Lists-undo : (id : ℕ) (old mid mid' new : List (Point × List ℕ)) (p : Point) (ids : Point → List ℕ)
    → Sets old mid p (with_id (list_at old p) id) → IsSame mid mid'
    → Sets mid' new p (without_id (list_at mid' p) id) → Lacks ids id → Lists old ids → Lists new ids
Lists-undo id old mid mid' new p ids sets same sets' lacks lists q = by (is_point p q) refl
  where
    by : (b : Bool) → is_point p q ≡ b → entry_of new q ≡ kept (ids q)
    by true is =
        let here : list_at mid' p ≡ with_id (ids p) id =
        ap (λ o. unwrap_or o []) (same p) ∙ list_at-here old mid p (with_id (list_at old p) id) sets
        ∙ ap (λ l. with_id l id) (list_at-lists old ids p lists) in
        let back : without_id (list_at mid' p) id ≡ ids p = ap (λ l. without_id l id) here ∙ without-with (ids p) id (lacks p) in
        sets' q ∙ rw is (ap kept back ∙ ap (λ (x : Point). kept (ids x)) (same_point p q is))
    by false is = sets' q ∙ rw is (same q ∙ sets q ∙ rw is (lists q))

-- ---- the index after each call

-- storing a list that isn't empty at a point
pub Sets-put : (old inside new : List (Point × List ℕ)) (p : Point) (list other : List ℕ) → inside ≡ old → list ≡ other → kept list ≡ Some list
    → ((q : Point) → entry_of new q ≡ cond (is_point p q) (Some list) (entry_of inside q)) → Sets old new p other
Sets-put old inside new p list other view_is is there puts q = rw (← is, there, ← view_is) (puts q)

-- removing a point whose list is empty
pub Sets-out : (old inside mid new : List (Point × List ℕ)) (p : Point) (list other : List ℕ) → inside ≡ old → other ≡ []
    → ((q : Point) → entry_of mid q ≡ cond (is_point p q) (Some list) (entry_of inside q))
    → ((q : Point) → entry_of new q ≡ cond (is_point p q) None (entry_of mid q)) → Sets old new p other
Sets-out old inside mid new p list other view_is none written out q = by (is_point p q) refl
  where
    by : (b : Bool) → is_point p q ≡ b → entry_of new q ≡ cond (is_point p q) (kept other) (entry_of old q)
    by true is = out q ∙ rw (is, none) refl
    by false is = out q ∙ rw (is, written q, is) (ap (λ es. entry_of es q) view_is)

-- replacing a list by itself
pub IsSame-put : (old inside new : List (Point × List ℕ)) (p : Point) (list : List ℕ) → inside ≡ old → Some list ≡ entry_of inside p
    → ((q : Point) → entry_of new q ≡ cond (is_point p q) (Some list) (entry_of inside q)) → IsSame old new
IsSame-put old inside new p list view_is was puts q = by (is_point p q) refl
  where
    by : (b : Bool) → is_point p q ≡ b → entry_of new q ≡ entry_of old q
    by true is = puts q ∙ rw is (was ∙ ap (entry_of inside) (same_point p q is) ∙ ap (λ es. entry_of es q) view_is)
    by false is = puts q ∙ rw is (ap (λ es. entry_of es q) view_is)

-- ---- the place of a point

point_equiv : IsEquivalence is_point
point_equiv = record {
  refl = λ p. nat_list_eq_equiv.refl p.0;
  symm = λ p q. nat_list_eq_equiv.symm p.0 q.0;
  congr = λ p q r. nat_list_eq_equiv.congr p.0 q.0 r.0;
}

-- where a key stands that is the point
pub place-of : (entries : List (Point × List ℕ)) (p own : Point) (i : ℕ) (list : List ℕ) → slice_get entries i ≡ Some (own, list)
    → entry_of entries own ≡ Some list → is_point own p ≡ true → IsPlaceOf entries p i
place-of entries p own i list at entry same =
    let is : own ≡ p = same_point own p same in
    (list, at ∙ ap (λ (x : Point). Some (x, list)) is, ap (entry_of entries) (sym is) ∙ entry)

-- a key that was found is the point
found-key : (entries : List (Point × List ℕ)) (p own : Point) → Some own ≡ lookup_key (is_point p) entries → p ≡ own
found-key [] p own found = absurd cc
found-key (e ∷ es) p own found = by (found-key es p own) (is_point p e.0) refl found
  where
    by : (Some own ≡ lookup_key (is_point p) es → p ≡ own) → (b : Bool) → is_point p e.0 ≡ b
        → Some own ≡ cond b (Some e.0) (lookup_key (is_point p) es) → p ≡ own
    by rest true is found = let own_is : own ≡ e.0 = cc in same_point p e.0 is ∙ sym own_is
    by rest false is found = rest found

-- where a key stands that was found
pub place-found : (entries : List (Point × List ℕ)) (p own : Point) (i : ℕ) (list : List ℕ) → slice_get entries i ≡ Some (own, list)
    → Some own ≡ lookup_key (is_point p) entries → Some list ≡ entry_of entries p → IsPlaceOf entries p i
place-found entries p own i list at found entry =
    (list, at ∙ ap (λ (x : Point). Some (x, list)) (sym (found-key entries p own found)), sym entry)

-- a list that is lent at the place of a point
module _ {S : Type 0} (map : IndexMap Point (List ℕ) S) (p own : Point) (i : ℕ) (list : List ℕ)
    (at : slice_get map.entries i ≡ Some (own, list)) (place : IsPlaceOf map.entries p i) where
  same : ◌≡◌ {A = Point × List ℕ} (own, list) (p, place.0)
  same = ap (λ o. unwrap_or o (own, list)) (sym at ∙ place.1)

  -- it is the point's
  pub entry-lent : entry_of map.entries p ≡ Some list
  entry-lent = place.2 ∙ ap (λ (e : Point × List ℕ). Some e.1) (sym same)

  pub list-lent : list ≡ list_at map.entries p
  list-lent = ap (λ o. unwrap_or o []) (sym entry-lent)

  -- the entries once it is written
  pub entries-lent : (other : List ℕ) → IsUnique is_point map
      → (q : Point) → entry_of (with_value_at map i other).entries q ≡ cond (is_point p q) (Some other) (entry_of map.entries q)
  entries-lent other unique q =
      (updates-with_value_at map i other point_equiv unique own list at).0 q
      ∙ ap (λ (e : Point × List ℕ). cond (is_point e.0 q) (Some other) (entry_of map.entries q)) same
