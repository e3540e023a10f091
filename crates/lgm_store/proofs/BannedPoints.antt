-- The set of banned points.
use Rattle.std.proofs.Common.{◌≡◌, Bool, true, false, cond, List, [], ◌∷◌, Option, Some, None}
use Rattle.std.proofs.Common.{refl, sym, ap, ◌∙◌}
use Rattle.std.specs.List.{list_any, filter, find}
use Rattle.std.specs.List.Sorted.{IsStrictlySortedBy}
use Rattle.std.specs.Map.{keys_of, values_of}
use Rattle.std.specs.BTreeMap.{insert_entry}
use Rattle.std.specs.BTreeMap.Range.{range_contains, is_from_start}
use Rattle.std.specs.BTreeSet.{insert_key}
use Rattle.std.specs.declared.ops.Bound.{Bound}
use Rattle.std.specs.declared.ops.Bound.TheVariants.{Unbounded}
use Rattle.std.specs.declared.cmp.Ordering.{Ordering}
use Rattle.std.specs.declared.cmp.Ordering.TheVariants.{Less, Equal, Greater}
use Rattle.std.specs.Ordering.{match_ordering}
use Rattle.lgm_wire.specs.declared.point.Point.{Point}
use Rattle.lgm_store.specs.Keys.{IsKeyed, point_cmp}
use Rattle.lgm_store.specs.Rows.{put, by_point}
use Rattle.lgm_store.specs.inner.SameKeys.{same_node}
use Rattle.lgm_store.proofs.Booleans.{and_true}
use Rattle.lgm_store.proofs.Lists.{node_total}
use Rattle.lgm_store.proofs.Ordered.{values-insert}

-- ---- the set of banned points

-- a point is inserted where an ordered set stores it
pub keys-insert : (points : List Point) (p : Point) → IsStrictlySortedBy by_point points → insert_key by_point points p ≡ put by_point points p
keys-insert points p sorted =
    by points ∙ values-insert point_cmp (λ (q : Point). q) node_total p (twice points) (keyed points)
    (rw (keys points) sorted) ∙ ap (λ ps. put by_point ps p) (values points)
  where
    twice : List Point → List (Point × Point)
    twice [] = []
    twice (x ∷ xs) = (x, x) ∷ twice xs

    keys : (xs : List Point) → keys_of (twice xs) ≡ xs
    keys [] = refl
    keys (x ∷ xs) = rw (keys xs) refl

    values : (xs : List Point) → values_of (twice xs) ≡ xs
    values [] = refl
    values (x ∷ xs) = rw (values xs) refl

    keyed : (xs : List Point) → IsKeyed (λ (q : Point). q) (twice xs)
    keyed [] = tt
    keyed (x ∷ xs) = (refl, keyed xs)

    by : (xs : List Point) → insert_key by_point xs p ≡ values_of (insert_entry point_cmp (twice xs) p p)
    by [] = refl
    by (x ∷ xs) = at (by xs) (by_point p x) refl
      where
        at : insert_key by_point xs p ≡ values_of (insert_entry point_cmp (twice xs) p p) → (o : Ordering) → by_point p x ≡ o
            → match_ordering o (p ∷ x ∷ xs) (x ∷ xs) (x ∷ insert_key by_point xs p)
            ≡ values_of (match_ordering o ((p, p) ∷ (x, x) ∷ twice xs) ((x, p) ∷ twice xs) ((x, x) ∷ insert_entry point_cmp (twice xs) p p))
        at others Less is = rw (values xs) refl
        at others Equal is = rw (values xs, ← same_node p x is) refl
        at others Greater is = rw others refl

pub any-same : {X : Type 0} (p q : X → Bool) → ((x : X) → p x ≡ q x) → (xs : List X) → list_any p xs ≡ list_any q xs
any-same p q same [] = refl
any-same p q same (x ∷ xs) = rw (same x, any-same p q same xs) refl

-- ---- the first point

abbrev pub first_point : List Point → Option Point
first_point [] = None
first_point (x ∷ xs) = Some x

-- the first point that passes is the first of those that do
find-first : (p q : Point → Bool) → ((x : Point) → p x ≡ q x) → (points : List Point) → find q points ≡ first_point (filter p points)
find-first p q alike [] = refl
find-first p q alike (x ∷ xs) = by (find-first p q alike xs) (q x) (alike x)
  where
    by : find q xs ≡ first_point (filter p xs) → (b : Bool) → p x ≡ b → cond b (Some x) (find q xs)
        ≡ first_point (cond (p x) (x ∷ filter p xs) (filter p xs))
    by others true is = rw is refl
    by others false is = rw is others

-- from a bound on
pub first-from : (start : Bound Point) (points : List Point)
    → first_point (filter (range_contains point_cmp start Unbounded) points) ≡ find (λ point. is_from_start point_cmp start point) points
first-from start points =
    sym (find-first (range_contains point_cmp start Unbounded) (λ point. is_from_start point_cmp start point)
    (λ x. and_true (is_from_start point_cmp start x)) points)
