-- Laws of the edges over an overlay.
use Rattle.std.proofs.Common.{◌≡◌, ◌⊎◌, inl, inr, ℕ, ◌≤◌, Bool, true, false, not, ◌&&◌, List, [], ◌∷◌, ◌++◌, map}
use Rattle.std.proofs.Common.{refl, sym, ap, subst, ◌∙◌, arith, true≢false}
use Rattle.std.specs.Prelude.{fold, eqb}
use Rattle.std.specs.List.{Contains, filter, list_any}
use Rattle.std.proofs.lemmas.Bool.{and_parts}
use Rattle.std.proofs.lemmas.List.{map-id}
use Rattle.std.proofs.lemmas.List.Folds.{list_any-append}
use Rattle.std.proofs.lemmas.List.Sums.{fold-append}
use Rattle.std.proofs.Math.Nat.{min-le_left}
use Rattle.lgm_wire.specs.declared.point.Point.{Point}
use Rattle.lgm_store.specs.Rows.{is_point}
use Rattle.lgm_store.proofs.ListLaws.{filter-true}
use Rattle.lgm_graph.specs.declared.overlay.Limit.{Limit}
use Rattle.lgm_graph.specs.Edges.{PointEdge, carrying, takes_payments}
use Rattle.lgm_graph.specs.Overlay.{OverlayParts, has_key, is_named, with_first, firsts, is_used, at_most, limited, overlaid_edges}
use Rattle.lgm_graph.specs.Overlay.{IsNeutral, KeepsKeys, OnlyNarrows, IsNarrowed, OnlyAdds}
use Rattle.lgm_graph.proofs.ViewEdgeLaws.{carrying_directions}
use Rattle.lgm_graph.proofs.Keys.{names, firsts_name, firsts_keep, firsts_apart}
use Rattle.lgm_graph.proofs.Members.{Among, Contains-Among, Among-Contains, Among-map, Among-mapped, Among-passes, Among-passed}
use Rattle.lgm_graph.proofs.Members.{Among-left, Among-right, Among-either}

pub neutral : IsNeutral
neutral known rows = ap (filter (λ edge. takes_payments known rows.nodes edge.to)) (map-id (filter (λ edge. true) (carrying rows)) ∙ filter-true (carrying rows))

not_true : (b : Bool) → not b ≡ true → b ≡ false
not_true true is = absurd (true≢false (sym is))
not_true false is = refl

-- ---- where an edge over an overlay comes from

module _ (overlay : OverlayParts) (edges : List PointEdge) where
  -- it is one of the first extra edges, or one of the map's that is used
  abbrev pub IsSource : PointEdge → Type 0
  IsSource edge = Among (firsts overlay.extra) edge ⊎ (Among edges edge × (is_used overlay edge ≡ true))

  pub source_of : (takes : PointEdge → Bool) (edge : PointEdge)
      → Among (filter takes (map (limited overlay.limits) (firsts overlay.extra ++ filter (is_used overlay) edges))) edge
      → (source : PointEdge) × IsSource source × (limited overlay.limits source ≡ edge) × (takes edge ≡ true)
  source_of takes edge there =
      let passed = Among-passed takes (map (limited overlay.limits) (firsts overlay.extra ++ filter (is_used overlay) edges)) edge there in
      let made = Among-mapped (limited overlay.limits) (firsts overlay.extra ++ filter (is_used overlay) edges) edge passed.0 in
      (made.0, which made.0 (Among-either (firsts overlay.extra) (filter (is_used overlay) edges) made.0 made.1), made.2, passed.1)
    where
      which : (e : PointEdge) → Among (firsts overlay.extra) e ⊎ Among (filter (is_used overlay) edges) e → IsSource e
      which e (inl here) = inl here
      which e (inr here) = inr (Among-passed (is_used overlay) edges e here)

  pub from_source : (takes : PointEdge → Bool) (source : PointEdge) → IsSource source → takes (limited overlay.limits source) ≡ true
      → Among (filter takes (map (limited overlay.limits) (firsts overlay.extra ++ filter (is_used overlay) edges))) (limited overlay.limits source)
  from_source takes source is taken =
      Among-passes takes (map (limited overlay.limits) (firsts overlay.extra ++ filter (is_used overlay) edges)) (limited overlay.limits source)
      (Among-map (limited overlay.limits) (firsts overlay.extra ++ filter (is_used overlay) edges) source (which is)) taken
    where
      which : IsSource source → Among (firsts overlay.extra ++ filter (is_used overlay) edges) source
      which (inl here) = Among-left (firsts overlay.extra) (filter (is_used overlay) edges) source here
      which (inr is) =
          Among-right (firsts overlay.extra) (filter (is_used overlay) edges) source (Among-passes (is_used overlay) edges source is.0 is.1)

-- ---- keys

pub keeps_keys : KeepsKeys
keeps_keys known rows overlay ascend edge other there also from id apart =
    let one = source_of overlay (carrying rows) takes edge (Among-Contains (overlaid_edges known rows overlay) edge there) in
    let two = source_of overlay (carrying rows) takes other (Among-Contains (overlaid_edges known rows overlay) other also) in
    let same : one.0 ≡ two.0 =
    by one.0 two.0 one.1 two.1
    (ap (λ (e : PointEdge). e.scid) one.2 ∙ id ∙ ap (λ (e : PointEdge). e.scid) (sym two.2))
    (ap (λ (e : PointEdge). e.from) one.2 ∙ from ∙ ap (λ (e : PointEdge). e.from) (sym two.2))
    (λ back. apart (ap (λ (e : PointEdge). e.from) (sym one.2) ∙ back ∙ ap (λ (e : PointEdge). e.to) one.2)) in
    sym one.2 ∙ ap (limited overlay.limits) same ∙ two.2
  where
    takes : PointEdge → Bool
    takes = λ e. takes_payments known rows.nodes e.to

    -- an edge of the map that is used has no extra edge's key
    never : (extra edge : PointEdge) → Among (firsts overlay.extra) extra → is_used overlay edge ≡ true → extra.scid ≡ edge.scid
        → extra.from ≡ edge.from → ⊥
    never extra edge there used id from =
        true≢false (sym (names (firsts overlay.extra) extra edge there id from) ∙ firsts_name edge [] overlay.extra
        ∙ not_true (is_named overlay.extra edge)
        (and_parts (not (list_any (is_point edge.from) overlay.silent)) (not (is_named overlay.extra edge)) used).1)

    by : (e o : PointEdge) → IsSource overlay (carrying rows) e → IsSource overlay (carrying rows) o → e.scid ≡ o.scid → e.from ≡ o.from
        → (e.from ≡ e.to → ⊥) → e ≡ o
    by e o (inl one) (inl two) id from apart = firsts_apart [] overlay.extra (λ x y none more. absurd none) e o one two id from
    by e o (inl one) (inr two) id from apart = absurd (never e o one two.1 id from)
    by e o (inr one) (inl two) id from apart = absurd (never o e two one.1 (sym id) (sym from))
    by e o (inr one) (inr two) id from apart = which (carrying_directions rows ascend e o one.0 two.0 id)
      where
        which : (e ≡ o) ⊎ ((e.from ≡ o.to) × (e.to ≡ o.from)) → e ≡ o
        which (inl same) = same
        which (inr back) = absurd (apart (from ∙ sym back.1))

-- ---- narrowing

limit_le : (id : ℕ) (from : Point) (most : ℕ) (limits : List Limit) → fold (at_most id from) most limits ≤ most
limit_le id from most [] = omega arith
limit_le id from most (limit ∷ limits) =
    let rest = limit_le id from (at_most id from most limit) limits in
    let one = step (eqb limit.scid id && is_point from limit.from) refl in
    omega (arith, rest, one)
  where
    step : (b : Bool) → (eqb limit.scid id && is_point from limit.from) ≡ b → at_most id from most limit ≤ most
    step true is = rw is (min-le_left most limit.most)
    step false is = rw is (omega arith)

pub only_narrows : OnlyNarrows
only_narrows known rows overlay edge there =
    let made = source_of overlay (carrying rows) takes edge (Among-Contains (overlaid_edges known rows overlay) edge there) in
    let taken : takes made.0 ≡ true = ap takes made.2 ∙ made.3 in (
      made.0,
      Contains-Among (overlaid_edges known rows bare) made.0 (from_source bare (carrying rows) takes made.0 (which made.0 made.1) taken),
      subst (λ e. IsNarrowed e made.0) made.2 (record { less = limit_le made.0.scid made.0.from made.0.max overlay.limits; same = refl }),
    )
  where
    bare : OverlayParts
    bare = record overlay { limits = []; silent = [] }

    takes : PointEdge → Bool
    takes = λ e. takes_payments known rows.nodes e.to

    which : (e : PointEdge) → IsSource overlay (carrying rows) e → IsSource bare (carrying rows) e
    which e (inl here) = inl here
    which e (inr is) = let still : is_used bare e ≡ true = (and_parts _ _ is.1).1 in inr (is.0, still)

-- ---- adding

pub only_adds : OnlyAdds
only_adds known rows overlay more fresh edge there =
    let made = source_of overlay (carrying rows) takes edge (Among-Contains (overlaid_edges known rows overlay) edge there) in
    let taken : takes made.0 ≡ true = ap takes made.2 ∙ made.3 in
    subst (Contains (overlaid_edges known rows wide)) made.2
    (Contains-Among (overlaid_edges known rows wide) (limited overlay.limits made.0) (from_source wide (carrying rows) takes made.0 (which made.0 made.1) taken))
  where
    wide : OverlayParts
    wide = record overlay { extra = overlay.extra ++ more }

    takes : PointEdge → Bool
    takes = λ e. takes_payments known rows.nodes e.to

    which : (e : PointEdge) → IsSource overlay (carrying rows) e → IsSource wide (carrying rows) e
    which e (inl here) = inl (subst (λ l. Among l e) (sym (fold-append with_first [] overlay.extra more)) (firsts_keep (firsts overlay.extra) more e here))
    which e (inr is) =
        let heard : Bool = not (list_any (is_point e.from) overlay.silent) in
        let parts = and_parts heard (not (is_named overlay.extra e)) is.1 in
        let old : is_named overlay.extra e ≡ false = not_true (is_named overlay.extra e) parts.1 in
        let new : is_named more e ≡ false = fresh e (Contains-Among (carrying rows) e is.0) in
        let unnamed : is_named (overlay.extra ++ more) e ≡ false =
        list_any-append (has_key e.scid e.from) overlay.extra more ∙ rw (old, new) refl in
        let silent : heard ≡ true = parts.0 in
        let still : is_used wide e ≡ true = rw (silent, unnamed) refl in
        inr (is.0, still)
