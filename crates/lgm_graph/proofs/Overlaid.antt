-- The edges over an overlay, node by node.
use Rattle.std.proofs.Common.{◌≡◌, ℕ, ◌≤◌, ltb, Bool, true, false, cond, List, [], ◌∷◌, ◌++◌}
use Rattle.std.proofs.Common.{length, map, get_or, refl, sym, ap, ◌∙◌, Option, Some, None, arith, length-append}
use Rattle.std.specs.Prelude.{fold}
use Rattle.std.specs.List.{AllByRecursion, IsDistinct, filter, filter_map, list_any, slice_get}
use Rattle.std.proofs.lemmas.Bool.{ltb-true, ltb-false}
use Rattle.std.proofs.lemmas.List.{length-map, get_or_past}
use Rattle.std.proofs.lemmas.Option.{get_or_from_slice_get}
use Rattle.lgm_wire.specs.declared.point.Point.{Point}
use Rattle.lgm_store.specs.Rows.{is_point}
use Rattle.lgm_store.proofs.ListLaws.{All-filter, All-to, All-append}
use Rattle.lgm_store.proofs.Points.{is_point-self}
use Rattle.lgm_graph.specs.declared.edge.Edge.{Edge}
use Rattle.lgm_graph.specs.Edges.{PointEdge}
use Rattle.lgm_graph.specs.Graph.{GraphNode, Shows, bare_node, edges_with, node_with, number_of, IsNumbered, IsJoined, numbered_in}
use Rattle.lgm_graph.specs.Overlay.{OverlayParts, is_named, is_used, with_first, limited}
use Rattle.lgm_graph.specs.inner.Overlaying.{Touched, IsOverriddenAt, AreApplied, overrides_of, is_extra_in, overlaid_by, overrides_at}
use Rattle.lgm_graph.proofs.Further.{number_left, slice_left}
use Rattle.lgm_graph.proofs.NewNumberLaws.{number_at}
use Rattle.lgm_graph.proofs.Places.{get_map}
use Rattle.lgm_graph.proofs.OverrideLaws.{slice_number, named_applied}
use Rattle.lgm_graph.proofs.ListedEdgeLaws.{map_alike, none_at}

-- ---- the overrides of the node that an edge leaves

module _ (overlay : OverlayParts) (points : List Point) (t : Touched) (local : AreApplied (overrides_of overlay) points t) where
  -- the edge over the overlay, if it is used
  abbrev pub laid_edge : PointEdge → Option Edge
  laid_edge edge = cond (is_used overlay edge) (Some (numbered_in points (limited overlay.limits edge))) None

  pub laid_number : (edge : PointEdge) → IsJoined points edge → overlaid_by t (numbered_in points edge) ≡ laid_edge edge
  laid_number edge both = by (list_any (is_point edge.from) overlay.silent) refl (is_named overlay.extra edge) refl
    where
      at : IsOverriddenAt (overrides_of overlay) points edge.from (overrides_at t (number_of points edge.from))
      at = local (number_of points edge.from) edge.from (slice_number points edge.from both.0)

      ids : is_extra_in (overrides_at t (number_of points edge.from)).terms edge.scid ≡ is_named overlay.extra edge
      ids = named_applied overlay edge points t local both.0

      by : (s : Bool) → list_any (is_point edge.from) overlay.silent ≡ s → (n : Bool) → is_named overlay.extra edge ≡ n
          → overlaid_by t (numbered_in points edge) ≡ laid_edge edge
      by true s n is = let applied = at.silent ∙ s in rw (applied, s) refl
      by false s true is = let applied = at.silent ∙ s in rw (applied, ids ∙ is, s, is) refl
      by false s false is =
          let applied = at.silent ∙ s in
          rw (applied, ids ∙ is, s, is)
          (ap (λ (m : ℕ). let e : Option Edge = Some (record (numbered_in points edge) { max = m }) in e) (at.limits edge.scid edge.max))

  pub laid_edges : (end : PointEdge → Point) → ((e : PointEdge) → end (limited overlay.limits e) ≡ end e)
      → (edges : List PointEdge) → AllByRecursion (IsJoined points) edges → (p : Point)
      → filter_map (overlaid_by t) (edges_with end points edges p)
      ≡ edges_with end points (map (limited overlay.limits) (filter (is_used overlay) edges)) p
  laid_edges end same [] joined p = refl
  laid_edges end same (e ∷ es) joined p =
      by (laid_edges end same es joined.1 p) (is_point p (end e)) refl (is_used overlay e) refl
    where
      left : List PointEdge
      left = filter (λ d. is_point p (end d)) es

      kept : List PointEdge
      kept = map (limited overlay.limits) (filter (is_used overlay) es)

      by : filter_map (overlaid_by t) (map (numbered_in points) left) ≡ map (numbered_in points) (filter (λ d. is_point p (end d)) kept)
          → (b : Bool) → is_point p (end e) ≡ b → (u : Bool) → is_used overlay e ≡ u
          → filter_map (overlaid_by t) (map (numbered_in points) (cond (is_point p (end e)) (e ∷ left) left))
          ≡ map (numbered_in points) (filter (λ d. is_point p (end d))
          (map (limited overlay.limits) (cond (is_used overlay e) (e ∷ filter (is_used overlay) es) (filter (is_used overlay) es))))
      by rest true b true u =
          let overlaid : overlaid_by t (numbered_in points e) ≡ Some (numbered_in points (limited overlay.limits e)) = laid_number e joined.0 ∙ rw u refl in
          let own : is_point p (end (limited overlay.limits e)) ≡ true = ap (is_point p) (same e) ∙ b in
          rw (b, u, overlaid, own) (ap (λ (ls : List Edge). numbered_in points (limited overlay.limits e) ∷ ls) rest)
      by rest true b false u =
          let overlaid : overlaid_by t (numbered_in points e) ≡ None = laid_number e joined.0 ∙ rw u refl in
          rw (b, u, overlaid) rest
      by rest false b true u =
          let own : is_point p (end (limited overlay.limits e)) ≡ false = ap (is_point p) (same e) ∙ b in
          rw (b, u, own) rest
      by rest false b false u = rw (b, u) rest

-- ---- the nodes of edges are numbered

pub joined_limited : (overlay : OverlayParts) (points : List Point) (edges : List PointEdge) → AllByRecursion (IsJoined points) edges
    → AllByRecursion (IsJoined points) (map (limited overlay.limits) edges)
joined_limited overlay points [] all = tt
joined_limited overlay points (e ∷ es) all = (all.0, joined_limited overlay points es all.1)

pub joined_firsts : (points : List Point) (before edges : List PointEdge) → AllByRecursion (IsJoined points) before → AllByRecursion (IsJoined points) edges
    → AllByRecursion (IsJoined points) (fold with_first before edges)
joined_firsts points before [] one two = one
joined_firsts points before (e ∷ es) one two = joined_firsts points (with_first before e) es (by (is_named before e)) two.1
  where
    by : (b : Bool) → AllByRecursion (IsJoined points) (cond b before (before ++ e ∷ []))
    by true = one
    by false = All-append (IsJoined points) before (e ∷ []) one (two.0, tt)

-- ---- the lists of a view at points behind which there are further ones

module _ (points added : List Point) (distinct : IsDistinct is_point (points ++ added)) where
  -- a point behind those of the view isn't one of them
  pub behind : (n : ℕ) (p : Point) → slice_get (points ++ added) n ≡ Some p → length points ≤ n → IsNumbered points p → ⊥
  behind n p at le there =
      let same = number_at (points ++ added) n p p distinct at (is_point-self p) in
      omega (arith, same.0, number_left points added p there, there, le)

  pub joined_left : (edges : List PointEdge) → AllByRecursion (IsJoined points) edges → AllByRecursion (IsJoined (points ++ added)) edges
  joined_left edges all =
      let left : (p : Point) → IsNumbered points p → IsNumbered (points ++ added) p =
      λ p there. omega (arith, number_left points added p there, there, length-append points added) in
      All-to (IsJoined points) (IsJoined (points ++ added)) edges (λ e both. (left e.from both.0, left e.to both.1)) all

  -- the edges of a node of the view, at its number
  pub base_at : (accepts : Point → Bool) (end : PointEdge → Point) (edges : List PointEdge) (nodes : List GraphNode) → Shows accepts edges points nodes
      → ((e : PointEdge) → IsJoined points e → IsNumbered points (end e))
      → (f : GraphNode → List Edge) → f (bare_node false) ≡ [] → ((p : Point) → f (node_with accepts points edges p) ≡ edges_with end points edges p)
      → (n : ℕ) (p : Point) → slice_get (points ++ added) n ≡ Some p → f (get_or nodes n (bare_node false)) ≡ edges_with end (points ++ added) edges p
  base_at accepts end edges nodes shows ends f none is n p at = by (ltb n (length points)) refl
    where
      by : (b : Bool) → ltb n (length points) ≡ b → f (get_or nodes n (bare_node false)) ≡ edges_with end (points ++ added) edges p
      by true e =
          let lt = ltb-true n (length points) e in
          let here : get_or points n p ≡ p = get_or_from_slice_get points n p p (sym (slice_left points added n lt) ∙ at) in
          ap f (ap (λ (ns : List GraphNode). get_or ns n (bare_node false)) shows.nodes_are
          ∙ get_map (node_with accepts points edges) points n p (bare_node false) lt ∙ ap (node_with accepts points edges) here)
          ∙ is p
          ∙ map_alike (numbered_in points) (numbered_in (points ++ added)) (filter (λ e. is_point p (end e)) edges)
          (All-filter (λ e. numbered_in points e ≡ numbered_in (points ++ added) e) (λ e. is_point p (end e)) edges
          (All-to (IsJoined points) (λ e. numbered_in points e ≡ numbered_in (points ++ added) e) edges
          (λ e both. rw (number_left points added e.from both.0, number_left points added e.to both.1) refl) shows.joined))
      by false e =
          let le = ltb-false n (length points) e in
          let past : length nodes ≤ n = omega (arith, le, ap length shows.nodes_are, length-map points (node_with accepts points edges)) in
          ap f (get_or_past nodes n (bare_node false) past) ∙ none
          ∙ ap (map (numbered_in (points ++ added))) (sym (none_at end points p edges (behind n p at le)
          (All-to (IsJoined points) (λ e. IsNumbered points (end e)) edges ends shows.joined)))
