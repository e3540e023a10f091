-- The overrides of nodes, one thing after the other.
use Rattle.std.proofs.Common.{◌≡◌, ◌≢◌, ℕ, ◌+◌, ◌<◌, Bool, true, false, cond, ◌&&◌, ◌||◌, List, [], ◌∷◌, ◌++◌, length, map, get_or, take}
use Rattle.std.proofs.Common.{refl, sym, ap, ◌∙◌, Some, None, arith, true≢false}
use Rattle.std.specs.Prelude.{eqb, min, unwrap_or}
use Rattle.std.specs.List.{IsDistinct, filter, list_any, position, slice_get}
use Rattle.std.proofs.lemmas.List.{map-append, append-nil, take_more}
use Rattle.std.proofs.lemmas.List.Elements.{filter-append}
use Rattle.std.proofs.lemmas.Bool.{eqb-true}
use Rattle.std.proofs.lemmas.List.Folds.{list_any-append}
use Rattle.std.proofs.lemmas.List.Sums.{fold-append}
use Rattle.std.proofs.lemmas.Option.{slice_get-get_or}
use Rattle.lgm_wire.specs.declared.point.Point.{Point}
use Rattle.lgm_store.specs.Rows.{is_point}
use Rattle.lgm_store.proofs.Points.{same_point, is_point-self}
use Rattle.lgm_graph.specs.declared.edge.Edge.{Edge}
use Rattle.lgm_graph.specs.declared.overlay.ExtraEdge.{ExtraEdge}
use Rattle.lgm_graph.specs.declared.overlay.Limit.{Limit}
use Rattle.lgm_graph.specs.declared.overlay_view.edge_terms.EdgeTerms.{EdgeTerms}
use Rattle.lgm_graph.specs.declared.overlay_view.overrides.Override.{Override}
use Rattle.lgm_graph.specs.declared.overlay_view.overrides.Override.TheVariants.{Silent, Limited, Leaving, Entering}
use Rattle.lgm_graph.specs.Edges.{PointEdge}
use Rattle.lgm_graph.specs.Graph.{edges_with, number_of, IsNumbered, numbered_in}
use Rattle.lgm_graph.specs.Overlay.{OverlayParts, has_key, is_named, with_first, firsts, extra_edge, at_most, most_of, limited}
use Rattle.lgm_graph.specs.inner.Overlaying.{NodeOverrides, Touched, Overrides, IsOverriddenAt, AreApplied, IsAppliedAt, overrides_of, extra_over}
use Rattle.lgm_graph.specs.Places.{at_place, place_of}
use Rattle.lgm_graph.specs.inner.Overlaying.{nothing_of, overrides_at, applied, is_extra_in, least_of, most_in, terms_of, with_limit, with_terms, as_extra}
use Rattle.lgm_graph.proofs.Further.{not_numbered}
use Rattle.lgm_graph.proofs.Keys.{or_false, firsts_name}
use Rattle.lgm_graph.proofs.NewNumberLaws.{number_at}
use Rattle.lgm_graph.proofs.Numbers.{number_some, get_number}
use Rattle.lgm_graph.proofs.TermLaws.{terms_are, least_lowered}

-- ---- points by number

-- a numbered point is at its number
pub slice_number : (points : List Point) (p : Point) → IsNumbered points p → slice_get points (number_of points p) ≡ Some p
slice_number points p there =
    slice_get-get_or points (number_of points p) p there ∙ ap Some (get_number points p p there)

module _ (points : List Point) (distinct : IsDistinct is_point points) (point : Point) (change : Override) (old new : Touched) where
  -- overrides at the number of a point are those of the point
  pub applied_at : (m : ℕ) → position (is_point point) points ≡ Some m → overrides_at new m ≡ applied (overrides_at old m) change
      → ((other : ℕ) → other ≢ m → overrides_at new other ≡ overrides_at old other) → IsAppliedAt points point change old new
  applied_at m is own others n p at = by (is_point p point) refl
    where
      found : (number_of points point ≡ m) × (m < length points)
      found = number_some points point m is

      by : (b : Bool) → is_point p point ≡ b → overrides_at new n ≡ cond (is_point p point) (applied (overrides_at old n) change) (overrides_at old n)
      by true same =
          let turned : is_point point p ≡ true = ap (λ (q : Point). is_point q p) (sym (same_point p point same)) ∙ is_point-self p in
          let here : n ≡ m = (number_at points n point p distinct at turned).0 ∙ found.0 in
          ap (overrides_at new) here ∙ own ∙ ap (λ k. applied (overrides_at old k) change) (sym here) ∙ rw same refl
      by false apart = others n away ∙ rw apart refl
        where
          away : n ≢ m
          away here =
              let there : IsNumbered points point = omega (arith, found.0, found.1) in
              let same : p ≡ point =
              let h : Some p ≡ Some point = sym at ∙ ap (slice_get points) (here ∙ sym found.0) ∙ slice_number points point there in cc in
              true≢false (sym (ap (λ (q : Point). is_point q point) same ∙ is_point-self point) ∙ apart)

  -- a point without a number has no overrides
  pub unheard : position (is_point point) points ≡ None → IsAppliedAt points point change old old
  unheard none n p at = by (is_point p point) refl
    where
      by : (b : Bool) → is_point p point ≡ b → overrides_at old n ≡ cond (is_point p point) (applied (overrides_at old n) change) (overrides_at old n)
      by true same =
          let turned : is_point point p ≡ true = ap (λ (q : Point). is_point q p) (sym (same_point p point same)) ∙ is_point-self p in
          absurd (not_numbered points point none (number_at points n point p distinct at turned).1)
      by false apart = rw apart refl

-- ---- one thing more

-- edges with an end at a point, after one more
edges_last : (end : PointEdge → Point) (points : List Point) (edges : List PointEdge) (edge : PointEdge) (p : Point) (b : Bool) → is_point p (end edge) ≡ b
    → edges_with end points (edges ++ edge ∷ []) p ≡ cond b (edges_with end points edges p ++ numbered_in points edge ∷ []) (edges_with end points edges p)
edges_last end points edges edge p true is =
    rw (filter-append (λ e. is_point p (end e)) edges (edge ∷ []), is)
    (map-append (numbered_in points) (filter (λ e. is_point p (end e)) edges) (edge ∷ []))
edges_last end points edges edge p false is =
    rw (filter-append (λ e. is_point p (end e)) edges (edge ∷ []), is, append-nil (filter (λ e. is_point p (end e)) edges)) refl

-- the overrides of the edges with an id, with an extra edge
abbrev extra_now : NodeOverrides → ℕ → EdgeTerms
extra_now local id = as_extra (terms_of local.terms id)

or_true : (b : Bool) → (b || true) ≡ true
or_true true = refl
or_true false = refl

module _ (points : List Point) (overrides : Overrides) (old new : Touched) (all : AreApplied overrides points old) where
  -- what holds of each point still holds, if it does of the one and of the others
  step : (point : Point) (change : Override) (more : Overrides) → IsAppliedAt points point change old new
      → ((p : Point) (local : NodeOverrides) → is_point p point ≡ true → IsOverriddenAt overrides points p local → IsOverriddenAt more points p (applied local change))
      → ((p : Point) (local : NodeOverrides) → is_point p point ≡ false → IsOverriddenAt overrides points p local → IsOverriddenAt more points p local)
      → AreApplied more points new
  step point change more changed own other n p at = by (is_point p point) refl
    where
      by : (b : Bool) → is_point p point ≡ b → IsOverriddenAt more points p (overrides_at new n)
      by true same = rw (changed n p at, same) (own p (overrides_at old n) same (all n p at))
      by false apart = rw (changed n p at, apart) (other p (overrides_at old n) apart (all n p at))

  pub silent_more : (node : Point) → IsAppliedAt points node Silent old new → AreApplied (record overrides { silent = overrides.silent ++ node ∷ [] }) points new
  silent_more node changed = step node Silent (record overrides { silent = overrides.silent ++ node ∷ [] }) changed
      (λ p local same was. record {
        silent = sym (list_any-append (is_point p) overrides.silent (node ∷ []) ∙ rw same (or_true (list_any (is_point p) overrides.silent)));
        limits = was.limits;
        extra = was.extra;
        leaving = was.leaving;
        entering = was.entering;
      })
      (λ p local apart was. record {
        silent = was.silent ∙ sym (list_any-append (is_point p) overrides.silent (node ∷ []) ∙ rw apart (or_false (list_any (is_point p) overrides.silent)));
        limits = was.limits;
        extra = was.extra;
        leaving = was.leaving;
        entering = was.entering;
      })

  pub limit_more : (limit : Limit) → IsAppliedAt points limit.from (Limited limit) old new
      → AreApplied (record overrides { limits = overrides.limits ++ limit ∷ [] }) points new
  limit_more limit changed = step limit.from (Limited limit) (record overrides { limits = overrides.limits ++ limit ∷ [] }) changed
      (λ p local same was. record {
        silent = was.silent;
        limits = λ id max.
            own p local same was id max (eqb limit.scid id) refl ∙ sym (fold-append (at_most id p) max overrides.limits (limit ∷ []));
        extra = λ id. kept local id (eqb limit.scid id) refl ∙ was.extra id;
        leaving = was.leaving;
        entering = was.entering;
      })
      (λ p local apart was. record {
        silent = was.silent;
        limits = λ id max.
            was.limits id max ∙ other p apart id max (eqb limit.scid id) refl ∙ sym (fold-append (at_most id p) max overrides.limits (limit ∷ []));
        extra = was.extra;
        leaving = was.leaving;
        entering = was.entering;
      })
    where
      own : (p : Point) (local : NodeOverrides) → is_point p limit.from ≡ true → IsOverriddenAt overrides points p local → (id max : ℕ) → (c : Bool) → eqb limit.scid id ≡ c
          → most_in (applied local (Limited limit)).terms id max ≡ at_most id p (most_of overrides.limits id p max) limit
      own p local same was id max c is =
          ap (λ terms. least_of terms.limit max) (terms_are limit.scid (with_limit limit.most (terms_of local.terms limit.scid)) id local.terms)
          ∙ by c is
        where
          by : (c : Bool) → eqb limit.scid id ≡ c
              → least_of (cond (eqb limit.scid id) (with_limit limit.most (terms_of local.terms limit.scid)) (terms_of local.terms id)).limit max
              ≡ at_most id p (most_of overrides.limits id p max) limit
          by true is =
              let here : limit.scid ≡ id = eqb-true limit.scid id is in
              rw (is, same) (ap (λ n. min max (least_of (terms_of local.terms n).limit limit.most)) here
              ∙ least_lowered (terms_of local.terms id).limit limit.most max ∙ ap (λ m. min m limit.most) (was.limits id max))
          by false is = rw is (was.limits id max)

      kept : (local : NodeOverrides) (id : ℕ) (c : Bool) → eqb limit.scid id ≡ c → is_extra_in (applied local (Limited limit)).terms id ≡ is_extra_in local.terms id
      kept local id c is =
          ap (λ terms. terms.is_extra) (terms_are limit.scid (with_limit limit.most (terms_of local.terms limit.scid)) id local.terms) ∙ by c is
        where
          by : (c : Bool) → eqb limit.scid id ≡ c
              → (cond (eqb limit.scid id) (with_limit limit.most (terms_of local.terms limit.scid)) (terms_of local.terms id)).is_extra
              ≡ is_extra_in local.terms id
          by true is = rw is (ap (λ n. is_extra_in local.terms n) (eqb-true limit.scid id is))
          by false is = rw is refl

      other : (p : Point) → is_point p limit.from ≡ false → (id max : ℕ) → (c : Bool) → eqb limit.scid id ≡ c
          → most_of overrides.limits id p max ≡ at_most id p (most_of overrides.limits id p max) limit
      other p apart id max true is = rw (is, apart) refl
      other p apart id max false is = rw is refl

  module _ (edge : PointEdge) (pushed : Edge) (pushed_is : pushed ≡ numbered_in points edge) where
    pub leaving_more : IsAppliedAt points edge.from (Leaving pushed) old new → AreApplied (record overrides { leaving = overrides.leaving ++ edge ∷ [] }) points new
    leaving_more changed = step edge.from (Leaving pushed) (record overrides { leaving = overrides.leaving ++ edge ∷ [] }) changed
        (λ p local same was. record {
          silent = was.silent;
          limits = λ id max. unlimited local id max (eqb edge.scid id) refl ∙ was.limits id max;
          extra = λ id. own p local same was id (eqb edge.scid id) refl ∙ sym (list_any-append (has_key id p) overrides.leaving (edge ∷ []));
          leaving = rw (was.leaving, pushed_is) (sym (edges_last (λ d. d.from) points overrides.leaving edge p true same));
          entering = was.entering;
        })
        (λ p local apart was. record {
          silent = was.silent;
          limits = was.limits;
          extra = λ id. was.extra id ∙ other p apart id (eqb edge.scid id) refl ∙ sym (list_any-append (has_key id p) overrides.leaving (edge ∷ []));
          leaving = was.leaving ∙ sym (edges_last (λ d. d.from) points overrides.leaving edge p false apart);
          entering = was.entering;
        })
      where
        id_is : pushed.scid ≡ edge.scid
        id_is = ap (λ (e : Edge). e.scid) pushed_is

        terms_now : (local : NodeOverrides) (id : ℕ) → terms_of (applied local (Leaving pushed)).terms id ≡ cond (eqb edge.scid id) (extra_now local edge.scid) (terms_of local.terms id)
        terms_now local id =
            ap (λ n. terms_of (with_terms local.terms n (as_extra (terms_of local.terms n))) id) id_is ∙ terms_are edge.scid (extra_now local edge.scid) id local.terms

        unlimited : (local : NodeOverrides) (id max : ℕ) (c : Bool) → eqb edge.scid id ≡ c
            → most_in (applied local (Leaving pushed)).terms id max ≡ most_in local.terms id max
        unlimited local id max c is = ap (λ terms. least_of terms.limit max) (terms_now local id) ∙ by c is
          where
            by : (c : Bool) → eqb edge.scid id ≡ c
                → least_of (cond (eqb edge.scid id) (extra_now local edge.scid) (terms_of local.terms id)).limit max ≡ most_in local.terms id max
            by true is = rw is (ap (λ n. most_in local.terms n max) (eqb-true edge.scid id is))
            by false is = rw is refl

        own : (p : Point) (local : NodeOverrides) → is_point p edge.from ≡ true → IsOverriddenAt overrides points p local → (id : ℕ) (c : Bool) → eqb edge.scid id ≡ c
            → is_extra_in (applied local (Leaving pushed)).terms id
            ≡ (list_any (has_key id p) overrides.leaving || ((eqb edge.scid id && is_point p edge.from) || false))
        own p local same was id c is = ap (λ terms. terms.is_extra) (terms_now local id) ∙ by c is
          where
            by : (c : Bool) → eqb edge.scid id ≡ c
                → (cond (eqb edge.scid id) (extra_now local edge.scid) (terms_of local.terms id)).is_extra
                ≡ (list_any (has_key id p) overrides.leaving || ((eqb edge.scid id && is_point p edge.from) || false))
            by true is = rw (is, same) (sym (or_true (list_any (has_key id p) overrides.leaving)))
            by false is = rw is (was.extra id ∙ sym (or_false (list_any (has_key id p) overrides.leaving)))

        other : (p : Point) → is_point p edge.from ≡ false → (id : ℕ) (c : Bool) → eqb edge.scid id ≡ c
            → list_any (has_key id p) overrides.leaving
            ≡ (list_any (has_key id p) overrides.leaving || ((eqb edge.scid id && is_point p edge.from) || false))
        other p apart id true is = rw (is, apart) (sym (or_false (list_any (has_key id p) overrides.leaving)))
        other p apart id false is = rw is (sym (or_false (list_any (has_key id p) overrides.leaving)))

    pub entering_more : IsAppliedAt points edge.to (Entering pushed) old new → AreApplied (record overrides { entering = overrides.entering ++ edge ∷ [] }) points new
    entering_more changed = step edge.to (Entering pushed) (record overrides { entering = overrides.entering ++ edge ∷ [] }) changed
        (λ p local same was. record {
          silent = was.silent;
          limits = was.limits;
          extra = was.extra;
          leaving = was.leaving;
          entering = rw (was.entering, pushed_is) (sym (edges_last (λ d. d.to) points overrides.entering edge p true same));
        })
        (λ p local apart was. record {
          silent = was.silent;
          limits = was.limits;
          extra = was.extra;
          leaving = was.leaving;
          entering = was.entering ∙ sym (edges_last (λ d. d.to) points overrides.entering edge p false apart);
        })

-- ---- extra edges

module _ (overlay : OverlayParts) (edge : PointEdge) where
  named_limited : (edges : List PointEdge) → list_any (has_key edge.scid edge.from) (map (limited overlay.limits) edges) ≡ is_named edges edge
  named_limited [] = refl
  named_limited (e ∷ es) = ap (λ b. has_key edge.scid edge.from e || b) (named_limited es)

  -- an extra edge out of the node has the id if one has the key
  pub named_applied : (points : List Point) (t : Touched) → AreApplied (overrides_of overlay) points t → IsNumbered points edge.from
      → is_extra_in (overrides_at t (number_of points edge.from)).terms edge.scid ≡ is_named overlay.extra edge
  named_applied points t all there =
      (all (number_of points edge.from) edge.from (slice_number points edge.from there)).extra edge.scid
      ∙ named_limited (firsts overlay.extra) ∙ firsts_name edge [] overlay.extra

  -- with one more
  abbrev pub wider : OverlayParts
  wider = record overlay { extra = overlay.extra ++ edge ∷ [] }

  more_over : (b : Bool) → is_named overlay.extra edge ≡ b
      → extra_over wider ≡ map (limited overlay.limits) (cond b (firsts overlay.extra) (firsts overlay.extra ++ edge ∷ []))
  more_over b is =
      ap (map (limited overlay.limits)) (fold-append with_first [] overlay.extra (edge ∷ []) ∙ rw (firsts_name edge [] overlay.extra ∙ is) refl)

  pub extra_there : is_named overlay.extra edge ≡ true → extra_over wider ≡ extra_over overlay
  extra_there is = more_over true is

  pub extra_new : is_named overlay.extra edge ≡ false → extra_over wider ≡ extra_over overlay ++ limited overlay.limits edge ∷ []
  extra_new is = more_over false is ∙ map-append (limited overlay.limits) (firsts overlay.extra) (edge ∷ [])

-- ---- lists of things

pub next_mapped : (extra : List ExtraEdge) (i : ℕ) (item : ExtraEdge) → i < length extra → item ≡ get_or extra i item
    → map extra_edge (take (i + 1) extra) ≡ map extra_edge (take i extra) ++ extra_edge item ∷ []
next_mapped extra i item lt is =
    ap (map extra_edge) (take_more extra i item lt ∙ ap (λ x. take i extra ++ x ∷ []) (sym is)) ∙ map-append extra_edge (take i extra) (item ∷ [])

-- no overrides
pub nothing_applied : (points : List Point) (t : Touched) → ((number : ℕ) → place_of t number ≡ 0)
    → AreApplied (record { silent = []; limits = []; leaving = []; entering = [] }) points t
nothing_applied points t none n p at =
    let bare : overrides_at t n ≡ nothing_of n = ap (λ k. unwrap_or (at_place t.nodes k) (nothing_of n)) (none n) in
    rw bare (record { silent = refl; limits = λ id max. refl; extra = λ id. refl; leaving = refl; entering = refl })
