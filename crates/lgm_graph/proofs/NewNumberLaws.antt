-- Looking up a point, and numbering it if it isn't.
use Rattle.std.proofs.Common.{◌≡◌, ℕ, ◌+◌, ◌<◌, ◌≤◌, ltb, zero, suc, Bool, true, false, cond, ◌||◌, List, [], ◌∷◌, ◌++◌}
use Rattle.std.proofs.Common.{length, refl, ap, subst, ◌∙◌, Option, Some, None, arith, true≢false, length-append}
use Rattle.std.specs.List.{AllByRecursion, IsDistinct, list_any, position, slice_get}
use Rattle.std.proofs.lemmas.Bool.Decides.{nat_tests}
use Rattle.std.proofs.lemmas.Map.Keys.{IsDistinct-head, IsDistinct-tail}
use Rattle.lgm_wire.specs.declared.point.Point.{Point}
use Rattle.lgm_check.specs.declared.row.NodeRow.{NodeRow}
use Rattle.lgm_store.specs.Rows.{is_point}
use Rattle.lgm_store.proofs.Points.{same_point}
use Rattle.lgm_graph.specs.declared.nodes.Nodes.{Nodes}
use Rattle.lgm_graph.specs.Edges.{PointEdge, takes_payments}
use Rattle.lgm_graph.specs.Graph.{bare_node, number_of, IsNumbered}
use Rattle.lgm_graph.specs.inner.Sound.{graph_in, nodes_in, ShowsIn}
use Rattle.lgm_graph.specs.inner.Walk.{KeepsNumbers, HasNumbered}
use Rattle.lgm_graph.proofs.ListedEdgeLaws.{shows_more, numbered_append, numbered_last, turned}
use Rattle.lgm_graph.proofs.PushedEdgeLaws.{same_points, same_nodes}

pub any_numbered : (points : List Point) (p : Point) → list_any (is_point p) points ≡ true → IsNumbered points p
any_numbered [] p any = absurd cc
any_numbered (r ∷ rs) p any = by (any_numbered rs p) (is_point p r) refl any
  where
    by : (list_any (is_point p) rs ≡ true → IsNumbered rs p) → (b : Bool) → is_point p r ≡ b
        → (is_point p r || list_any (is_point p) rs) ≡ true → IsNumbered (r ∷ rs) p
    by others true e any = rw e (omega arith)
    by others false e any = let there = others (rw e at any) in rw e (omega (arith, there))

pub any_not : (points : List Point) (p : Point) → list_any (is_point p) points ≡ false → IsNumbered points p → ⊥
any_not [] p any there = omega (arith, there)
any_not (r ∷ rs) p any there = by (any_not rs p) (is_point p r) refl any there
  where
    by : (list_any (is_point p) rs ≡ false → IsNumbered rs p → ⊥) → (b : Bool) → is_point p r ≡ b
        → (is_point p r || list_any (is_point p) rs) ≡ false → IsNumbered (r ∷ rs) p → ⊥
    by others true e any there = let h : true ≡ false = rw e at any in true≢false h
    by others false e any there =
        let next : 1 + number_of rs p ≡ suc (number_of rs p) = omega arith in
        let fits : suc (number_of rs p) < suc (length rs) = rw (e, next) at there in
        others (rw e at any) (omega (arith, fits))

-- no point is found, so there is none
pub position_none : (points : List Point) (p : Point) → position (is_point p) points ≡ None → list_any (is_point p) points ≡ false
position_none points p none = by (list_any (is_point p) points) refl
  where
    found : IsNumbered points p → (b : Bool) → ltb (number_of points p) (length points) ≡ b
        → cond (ltb (number_of points p) (length points)) (Some (number_of points p)) None ≡ None → ⊥
    found there true e is = let h : Some (number_of points p) ≡ None = rw e at is in absurd cc
    found there false e is = let le : length points ≤ number_of points p = grind (arith, nat_tests) in omega (arith, le, there)

    by : (b : Bool) → list_any (is_point p) points ≡ b → list_any (is_point p) points ≡ false
    by true e = absurd (found (any_numbered points p e) (ltb (number_of points p) (length points)) refl none)
    by false e = e

found_at : {X : Type 0} (P : X → Type 0) (xs : List X) (n : ℕ) (x : X) → AllByRecursion P xs → slice_get xs n ≡ Some x → P x
found_at P [] n x all there = absurd cc
found_at P (y ∷ ys) zero x all there = let own : y ≡ x = cc in subst P own all.0
found_at P (y ∷ ys) (suc n) x all there = found_at P ys n x all.1 there

-- a point's number is its index, if points are distinct
pub number_at : (points : List Point) (n : ℕ) (p q : Point) → IsDistinct is_point points
    → slice_get points n ≡ Some q → is_point p q ≡ true → (n ≡ number_of points p) × IsNumbered points p
number_at [] n p q distinct there is = absurd cc
number_at (r ∷ rs) zero p q distinct there is =
    let own : r ≡ q = cc in
    let passes : is_point p r ≡ true = ap (is_point p) own ∙ is in
    rw passes (refl, omega arith)
number_at (r ∷ rs) (suc n) p q distinct there is =
    let others = number_at rs n p q (IsDistinct-tail is_point r rs distinct) there is in
    let away : is_point r q ≡ false = found_at (λ x. is_point r x ≡ false) rs n q (IsDistinct-head is_point r rs distinct) there in
    let apart : is_point p r ≡ false = turned r p (ap (is_point r) (same_point p q is) ∙ away) in
    let next : 1 + number_of rs p ≡ suc (number_of rs p) = omega arith in
    rw (apart, next) (ap suc others.0, omega (arith, others.1))

module _ (old mid new : Nodes) (point : Point) (accepts_payments : Bool) (other : list_any (is_point point) old.points.keys ≡ false)
    (same : (known : Option (List ℕ)) → graph_in known mid ≡ graph_in known old)
    (points_is : new.points.keys ≡ mid.points.keys ++ point ∷ [])
    (nodes_is : nodes_in new ≡ nodes_in mid ++ bare_node accepts_payments ∷ []) where
  pub further_points : new.points.keys ≡ old.points.keys ++ point ∷ []
  further_points = points_is ∙ ap (λ ps. ps ++ point ∷ []) (same_points old mid same)

  pub further_number : (number_of new.points.keys point ≡ length old.points.keys) × IsNumbered new.points.keys point
  further_number = rw further_points (numbered_last old.points.keys point (any_not old.points.keys point other))

  pub further_keeps : KeepsNumbers old.points.keys new.points.keys
  further_keeps = rw further_points (numbered_append old.points.keys point)

  pub further_few : length new.points.keys ≤ length old.points.keys + 1
  further_few = omega (arith, ap length further_points, length-append old.points.keys (point ∷ []))

  pub further_shows : (known : Option (List ℕ)) (rows : List NodeRow) → accepts_payments ≡ takes_payments known rows point
      → (edges : List PointEdge) → ShowsIn (takes_payments known rows) edges old → ShowsIn (takes_payments known rows) edges new
  further_shows known rows own edges shows =
      rw (further_points, nodes_is, own, same_nodes old mid same)
      (shows_more (takes_payments known rows) edges old.points.keys (nodes_in old) point (any_not old.points.keys point other) shows)

  pub has_numbered : (known : Option (List ℕ)) (rows : List NodeRow) → accepts_payments ≡ takes_payments known rows point
      → HasNumbered known rows point old new
  has_numbered known rows own = record {
    few = further_few;
    kept = further_keeps;
    numbered = further_number.1;
    shows = further_shows known rows own;
  }

-- a point that is numbered already
pub was_numbered : (known : Option (List ℕ)) (rows : List NodeRow) (point : Point) (nodes : Nodes)
    → IsNumbered nodes.points.keys point → HasNumbered known rows point nodes nodes
was_numbered known rows point nodes there = record {
  few = omega arith;
  kept = λ p numbered. (refl, numbered);
  numbered = there;
  shows = λ edges shows. shows;
}
