-- Points numbered behind those of a view.
use Rattle.std.proofs.Common.{◌≡◌, ℕ, ◌+◌, ◌-◌, ◌<◌, ◌≤◌, ltb, Bool, true, false, cond, List, [], ◌∷◌, ◌++◌, length, zero, suc}
use Rattle.std.proofs.Common.{inl, inr, refl, sym, ap, ◌∙◌, Some, None, arith, length-append, append_assoc, true≢false, ◌||◌, map, take, get_or, subst}
use Rattle.std.specs.List.{AllByRecursion, IsDistinct, list_any, position, slice_get}
use Rattle.std.proofs.lemmas.Bool.{cases_Bool, lt-ltb, ltb-true}
use Rattle.std.proofs.lemmas.List.{map-append, take_more}
use Rattle.std.proofs.lemmas.List.Folds.{list_any-append}
use Rattle.std.proofs.lemmas.Map.Keys.{IsDistinct-head, IsDistinct-tail, IsDistinct-cons}
use Rattle.indexmap.specs.IndexSet.{insert_key}
use Rattle.lgm_wire.specs.declared.point.Point.{Point}
use Rattle.lgm_store.specs.Rows.{is_point}
use Rattle.lgm_store.proofs.ListLaws.{All-append, All-to}
use Rattle.lgm_graph.specs.declared.overlay.ExtraEdge.{ExtraEdge}
use Rattle.lgm_graph.specs.Overlay.{extra_edge}
use Rattle.lgm_graph.specs.Graph.{number_of, IsNumbered, IsJoined}
use Rattle.lgm_graph.specs.inner.Walk.{KeepsNumbers}
use Rattle.lgm_graph.proofs.Counted.{get_right}
use Rattle.lgm_graph.proofs.NewNumberLaws.{any_not, position_none}
use Rattle.lgm_graph.proofs.Numbers.{number_some}
use Rattle.lgm_graph.proofs.ListedEdgeLaws.{numbered_append, numbered_last, turned}

module _ {X : Type 0} where
  pub slice_left : (xs ys : List X) (n : ℕ) → n < length xs → slice_get (xs ++ ys) n ≡ slice_get xs n
  slice_left [] ys n lt = absurd (omega (arith, lt))
  slice_left (x ∷ xs) ys zero lt = refl
  slice_left (x ∷ xs) ys (suc n) lt = slice_left xs ys n (omega (arith, lt))

  pub slice_right : (xs ys : List X) (n : ℕ) → length xs ≤ n → slice_get (xs ++ ys) n ≡ slice_get ys (n - length xs)
  slice_right xs ys n le = get_right xs ys n (n - length xs) (omega (arith, le))

pub number_left : (xs ys : List Point) (p : Point) → IsNumbered xs p → number_of (xs ++ ys) p ≡ number_of xs p
number_left [] ys p there = absurd (omega (arith, there))
number_left (r ∷ rs) ys p there = elim (cases_Bool (is_point p r)) [
  | inl e ↦ rw e refl
  | inr e ↦
      let next : 1 + number_of rs p ≡ suc (number_of rs p) = omega arith in
      let fits : suc (number_of rs p) < suc (length rs) = rw (e, next) at there in
      rw e (ap (λ n. 1 + n) (number_left rs ys p (omega (arith, fits))))
]

pub number_right : (xs ys : List Point) (p : Point) → (IsNumbered xs p → ⊥) → number_of (xs ++ ys) p ≡ length xs + number_of ys p
number_right [] ys p new = omega arith
number_right (r ∷ rs) ys p new = elim (cases_Bool (is_point p r)) [
  | inl e ↦ let there : IsNumbered (r ∷ rs) p = rw e (omega arith) in absurd (new there)
  | inr e ↦
      let rest = number_right rs ys p (λ h. new (let there : IsNumbered (r ∷ rs) p = rw e (omega (arith, h)) in there)) in
      rw e (omega (arith, rest))
]

-- the search finds a number, or there is none
pub position_is : (points : List Point) (p : Point) (n : ℕ) → number_of points p ≡ n → n < length points → position (is_point p) points ≡ Some n
position_is points p n is lt =
    let there : number_of points p < length points = omega (arith, is, lt) in
    rw (lt-ltb (number_of points p) (length points) there) (ap Some is)

pub position_left : (xs ys : List Point) (p : Point) (n : ℕ) → position (is_point p) xs ≡ Some n → position (is_point p) (xs ++ ys) ≡ Some n
position_left xs ys p n is =
    let found = number_some xs p n is in
    let there : IsNumbered xs p = omega (arith, found.0, found.1) in
    position_is (xs ++ ys) p n (number_left xs ys p there ∙ found.0) (omega (arith, found.1, length-append xs ys))

pub not_numbered : (points : List Point) (p : Point) → position (is_point p) points ≡ None → IsNumbered points p → ⊥
not_numbered points p none = any_not points p (position_none points p none)

pub position_right : (xs ys : List Point) (p : Point) (n : ℕ) → position (is_point p) xs ≡ None → position (is_point p) ys ≡ Some n
    → position (is_point p) (xs ++ ys) ≡ Some (length xs + n)
position_right xs ys p n none is =
    let found = number_some ys p n is in
    let right = number_right xs ys p (not_numbered xs p none) in
    position_is (xs ++ ys) p (length xs + n) (right ∙ ap (λ m. length xs + m) found.0) (omega (arith, found.1, length-append xs ys))

pub position_neither : (xs ys : List Point) (p : Point) → position (is_point p) xs ≡ None → position (is_point p) ys ≡ None
    → position (is_point p) (xs ++ ys) ≡ None
position_neither xs ys p none other = by (ltb (number_of (xs ++ ys) p) (length (xs ++ ys))) refl
  where
    by : (b : Bool) → ltb (number_of (xs ++ ys) p) (length (xs ++ ys)) ≡ b
        → cond (ltb (number_of (xs ++ ys) p) (length (xs ++ ys))) (Some (number_of (xs ++ ys) p)) None ≡ None
    by true is =
        let lt = ltb-true (number_of (xs ++ ys) p) (length (xs ++ ys)) is in
        let right = number_right xs ys p (not_numbered xs p none) in
        absurd (not_numbered ys p other (omega (arith, lt, right, length-append xs ys)))
    by false is = rw is refl

-- ---- a further point

apart_of : (points : List Point) (p : Point) → list_any (is_point p) points ≡ false → AllByRecursion (λ q. is_point q p ≡ false) points
apart_of [] p none = tt
apart_of (q ∷ qs) p none = by (apart_of qs p) (is_point p q) refl none
  where
    by : (list_any (is_point p) qs ≡ false → AllByRecursion (λ r. is_point r p ≡ false) qs) → (b : Bool) → is_point p q ≡ b
        → (is_point p q || list_any (is_point p) qs) ≡ false → AllByRecursion (λ r. is_point r p ≡ false) (q ∷ qs)
    by rest true is none = let never : true ≡ false = rw is at none in absurd (true≢false never)
    by rest false is none = (turned p q is, rest (rw is at none))

distinct_last : (points : List Point) (p : Point) → IsDistinct is_point points → AllByRecursion (λ q. is_point q p ≡ false) points
    → IsDistinct is_point (points ++ p ∷ [])
distinct_last [] p distinct apart = IsDistinct-cons is_point p [] tt distinct
distinct_last (q ∷ qs) p distinct apart =
    IsDistinct-cons is_point q (qs ++ p ∷ []) (All-append (λ r. is_point q r ≡ false) qs (p ∷ []) (IsDistinct-head is_point q qs distinct) (apart.0, tt))
    (distinct_last qs p (IsDistinct-tail is_point q qs distinct) apart.1)

module _ (points added keys : List Point) (p : Point) (none : position (is_point p) (points ++ added) ≡ None)
    (keys_is : keys ≡ insert_key is_point added p) where
  unlisted : list_any (is_point p) (points ++ added) ≡ false
  unlisted = position_none (points ++ added) p none

  not_added : list_any (is_point p) added ≡ false
  not_added = by (list_any (is_point p) points) (sym (list_any-append (is_point p) points added) ∙ unlisted)
    where
      by : (b : Bool) → (b || list_any (is_point p) added) ≡ false → list_any (is_point p) added ≡ false
      by true is = absurd (true≢false is)
      by false is = is

  pub pushed : points ++ keys ≡ (points ++ added) ++ p ∷ []
  pushed =
      let last : keys ≡ added ++ p ∷ [] = keys_is ∙ rw not_added refl in
      ap (λ ks. points ++ ks) last ∙ sym (append_assoc points added (p ∷ []))

  pub pushed_kept : KeepsNumbers (points ++ added) (points ++ keys)
  pushed_kept = rw pushed (numbered_append (points ++ added) p)

  pub pushed_numbered : IsNumbered (points ++ keys) p
  pushed_numbered = rw pushed (numbered_last (points ++ added) p (not_numbered (points ++ added) p none)).1

  pub pushed_distinct : IsDistinct is_point (points ++ added) → IsDistinct is_point (points ++ keys)
  pushed_distinct distinct = rw pushed (distinct_last (points ++ added) p distinct (apart_of (points ++ added) p unlisted))

  pub pushed_long : length (points ++ keys) ≡ length (points ++ added) + 1
  pushed_long = omega (arith, ap length pushed, length-append (points ++ added) (p ∷ []))

-- ---- extra edges

-- the nodes of one more extra edge are numbered
pub joined_next : (old new : List Point) (extra : List ExtraEdge) (i : ℕ) (item : ExtraEdge) → i < length extra → item ≡ get_or extra i item
    → KeepsNumbers old new → IsNumbered new item.from → IsNumbered new item.to
    → AllByRecursion (IsJoined old) (map extra_edge (take i extra)) → AllByRecursion (IsJoined new) (map extra_edge (take (i + 1) extra))
joined_next old new extra i item lt is kept from to all =
    let next : take (i + 1) extra ≡ take i extra ++ item ∷ [] = take_more extra i item lt ∙ ap (λ e. take i extra ++ e ∷ []) (sym is) in
    rw (next, map-append extra_edge (take i extra) (item ∷ []))
    (All-append (IsJoined new) (map extra_edge (take i extra)) (map extra_edge (item ∷ []))
    (All-to (IsJoined old) (IsJoined new) (map extra_edge (take i extra)) (λ e both. ((kept e.from both.0).1, (kept e.to both.1).1)) all) ((from, to), tt))

pub joined_at : (points : List Point) (extra : List ExtraEdge) (i : ℕ) (item : ExtraEdge) → i < length extra → item ≡ get_or extra i item
    → AllByRecursion (IsJoined points) (map extra_edge extra) → IsJoined points (extra_edge item)
joined_at points [] i item lt is all = absurd (omega (arith, lt))
joined_at points (e ∷ es) zero item lt is all = subst (λ (x : ExtraEdge). IsJoined points (extra_edge x)) (sym is) all.0
joined_at points (e ∷ es) (suc i) item lt is all = joined_at points es i item (omega (arith, lt)) is all.1
