-- A view of rows has each of their edges once.
use Rattle.std.proofs.Common.{◌≡◌, Bool, true, false, cond, not, ◌||◌, List, [], ◌∷◌, ◌++◌, map}
use Rattle.std.proofs.Common.{refl, sym, ap, subst, ◌∙◌, ◌<◌, ◌+◌, length, arith, true≢false}
use Rattle.std.specs.Prelude.{if◌then◌else◌, flat_map}
use Rattle.std.specs.List.{AllByRecursion, IsDistinct, filter, list_any}
use Rattle.std.specs.List.Sorted.{IsPermutation}
use Rattle.std.proofs.lemmas.List.{map-append}
use Rattle.std.proofs.lemmas.Map.Keys.{IsDistinct-head, IsDistinct-tail}
use Rattle.std.proofs.lemmas.List.Sorted.{IsPermutation-refl, IsPermutation-trans, IsPermutation-append_right, IsPermutation-filter_both}
use Rattle.lgm_wire.specs.declared.point.Point.{Point}
use Rattle.lgm_store.specs.Rows.{Rows, is_point}
use Rattle.lgm_store.proofs.ListLaws.{All-filter, All-to}
use Rattle.lgm_store.proofs.Points.{same_point, is_point-self}
use Rattle.lgm_graph.specs.Edges.{PointEdge, carrying, edges_of, takes_payments}
use Rattle.lgm_graph.specs.Graph.{Graph, GraphNode, Shows, IsGraphOf, IsJoined, IsNumbered, number_of, numbered_in, edge_between, edges_with, node_with, open_into, point_edges}
use Rattle.lgm_graph.proofs.NodeListLaws.{back_again}

-- those that lead to each of the points, one point after the other
abbrev buffered : List Point → List PointEdge → List PointEdge
buffered points edges = flat_map (λ point. filter (λ e. is_point point e.to) edges) points

-- those that don't lead to a point, where the others don't matter
gathered_others : (p : Point) (edges : List PointEdge) (points : List Point) → AllByRecursion (λ q. is_point p q ≡ false) points
    → buffered points (filter (λ e. not (is_point p e.to)) edges) ≡ buffered points edges
gathered_others p edges [] apart = refl
gathered_others p edges (q ∷ qs) apart = rw (here, gathered_others p edges qs apart.1) refl
  where
    each : (es : List PointEdge) → AllByRecursion (λ e. (is_point q e.to ≡ true) → not (is_point p e.to) ≡ true) es
    each [] = tt
    each (e ∷ es) = ((λ is. ap (λ (x : Point). not (is_point p x)) (sym (same_point q e.to is)) ∙ rw apart.0 refl), each es)

    pass : (es : List PointEdge) → AllByRecursion (λ e. (is_point q e.to ≡ true) → not (is_point p e.to) ≡ true) es
        → filter (λ e. is_point q e.to) (filter (λ e. not (is_point p e.to)) es) ≡ filter (λ e. is_point q e.to) es
    pass [] all = refl
    pass (e ∷ es) all = by (pass es all.1) (is_point q e.to) refl (not (is_point p e.to)) refl
      where
        by : filter (λ e. is_point q e.to) (filter (λ e. not (is_point p e.to)) es) ≡ filter (λ e.
            is_point q e.to) es → (b : Bool) → is_point q e.to ≡ b → (d : Bool) → not (is_point p e.to) ≡ d
            → filter (λ e. is_point q e.to) (cond (not (is_point p e.to)) (e
            ∷ filter (λ e. not (is_point p e.to)) es) (filter (λ e. not (is_point p e.to)) es))
            ≡ cond (is_point q e.to) (e ∷ filter (λ e. is_point q e.to) es) (filter (λ e. is_point q e.to) es)
        by others true is true stays = rw (stays, is, others) refl
        by others true is false stays = absurd (true≢false (sym (all.0 is) ∙ stays))
        by others false is true stays = rw (stays, is) others
        by others false is false stays = rw (stays, is) others

    here : filter (λ e. is_point q e.to) (filter (λ e. not (is_point p e.to)) edges) ≡ filter (λ e. is_point q e.to) edges
    here = pass edges (each edges)

-- each edge leads to one of the points, and so is collected once
gathered_once : (points : List Point) (edges : List PointEdge) → IsDistinct is_point points → AllByRecursion
    (λ e. list_any (λ p. is_point p e.to) points ≡ true) edges → IsPermutation edges (buffered points edges)
gathered_once [] [] distinct all = IsPermutation-refl []
gathered_once [] (e ∷ es) distinct all = let never : false ≡ true = all.0 in absurd cc
gathered_once (p ∷ ps) edges distinct all =
    IsPermutation-trans edges (filter (λ e. is_point p e.to) edges ++ filter (λ e. not (is_point p e.to)) edges) (buffered (p ∷ ps) edges)
    (IsPermutation-filter_both (λ (e : PointEdge). is_point p e.to) (λ e. not (is_point p e.to)) (λ e. refl) edges)
    (IsPermutation-append_right (filter (λ e. is_point p e.to) edges) (filter (λ e. not (is_point p e.to)) edges) (buffered ps edges)
    (subst (IsPermutation (filter (λ e. not (is_point p e.to)) edges)) (gathered_others p edges ps (IsDistinct-head is_point p ps distinct))
    (gathered_once ps (filter (λ e. not (is_point p e.to)) edges) (IsDistinct-tail is_point p ps distinct) (others edges all))))
  where
    others : (es : List PointEdge) → AllByRecursion (λ e. (is_point p e.to || list_any (λ q. is_point q e.to) ps) ≡ true) es
        → AllByRecursion (λ e. list_any (λ q. is_point q e.to) ps ≡ true) (filter (λ e. not (is_point p e.to)) es)
    others [] all = tt
    others (e ∷ es) all = by (others es all.1) (is_point p e.to) refl
      where
        by : AllByRecursion (λ e. list_any (λ q. is_point q e.to) ps
            ≡ true) (filter (λ e. not (is_point p e.to)) es) → (b : Bool) → is_point p e.to ≡ b
            → AllByRecursion (λ e. list_any (λ q. is_point q e.to) ps ≡ true) (cond (not (is_point p e.to)) (e
            ∷ filter (λ e. not (is_point p e.to)) es) (filter (λ e. not (is_point p e.to)) es))
        by rest true is = rw is rest
        by rest false is = rw is (rw is at all.0, rest)

-- a point that has a number is among the points
numbered_among : (points : List Point) (p : Point) → IsNumbered points p → list_any (λ q. is_point q p) points ≡ true
numbered_among [] p there = absurd (omega (arith, there))
numbered_among (q ∷ qs) p there = by (numbered_among qs p) (is_point p q) refl there
  where
    by : (IsNumbered qs p → list_any (λ r. is_point r p) qs ≡ true) → (b : Bool) → is_point p q ≡ b
        → IsNumbered (q ∷ qs) p → (is_point q p || list_any (λ r. is_point r p) qs) ≡ true
    by others true is there =
        let own : is_point q p ≡ true = ap (λ (x : Point). is_point x p) (sym (same_point p q is)) ∙ is_point-self p in rw own refl
    by others false is there =
        last (is_point q p)
        (others (let later : 1 + number_of qs p < length (q ∷ qs) = rw is at there in omega (arith, later)))
      where
        last : (b : Bool) → list_any (λ r. is_point r p) qs ≡ true → (b || list_any (λ r. is_point r p) qs) ≡ true
        last true rest = refl
        last false rest = rest

-- a graph shows these edges, and each that leads to a node that takes payments is listed there once
module _ (takes : Point → Bool) (listed : List PointEdge) (graph : Graph) (distinct : IsDistinct is_point graph.points)
    (shows : Shows takes listed graph.points graph.nodes) where
  -- the edges into one node
  shown_at : (p : Point) → map (edge_between graph.points) (if takes p
      then edges_with (λ e. e.to) graph.points listed p else [])
      ≡ filter (λ e. is_point p e.to) (filter (λ e. takes e.to) listed)
  shown_at p = along listed shows.joined
    where
      along : (es : List PointEdge) → AllByRecursion (IsJoined graph.points) es
          → map (edge_between graph.points) (if takes p
          then edges_with (λ e. e.to) graph.points es p else [])
          ≡ filter (λ e. is_point p e.to) (filter (λ e. takes e.to) es)
      along [] joined = none (takes p)
        where
          none : (b : Bool) → map (edge_between graph.points) (if b then [] else []) ≡ []
          none true = refl
          none false = refl
      along (e ∷ es) joined = by (along es joined.1) (is_point p e.to) refl (takes p) refl
        where
          into : List PointEdge
          into = filter (λ d. is_point p d.to) es

          left : List PointEdge
          left = filter (λ d. takes d.to) es

          by : map (edge_between graph.points) (if takes p
              then map (numbered_in graph.points) into else []) ≡ filter (λ d. is_point p d.to) left
              → (b : Bool) → is_point p e.to ≡ b → (t : Bool) → takes p ≡ t
              → map (edge_between graph.points) (if takes p
              then map (numbered_in graph.points) (cond (is_point p e.to) (e ∷ into) into) else [])
              ≡ filter (λ d. is_point p d.to) (cond (takes e.to) (e ∷ left) left)
          by rest true b true t =
              let own : takes e.to ≡ true =
              ap (takes) (sym (same_point p e.to b)) ∙ t in
              let back = back_again takes graph.points distinct listed graph.nodes shows e joined.0 in
              let rest' : map (edge_between graph.points) (map (numbered_in graph.points) into) ≡ filter (λ d. is_point p d.to) left = rw t at rest in
              rw (b, t, own, b) (ap (λ (d : PointEdge). d ∷ map (edge_between graph.points)
              (map (numbered_in graph.points) into)) back ∙ ap (λ (l : List PointEdge). e ∷ l) rest')
          by rest true b false t =
              let own : takes e.to ≡ false =
              ap (takes) (sym (same_point p e.to b)) ∙ t in
              rw (own, t) (rw t at rest)
          by rest false b t is = elsewhere (takes e.to)
            where
              elsewhere : (d : Bool) → map (edge_between graph.points) (if takes p
                  then map (numbered_in graph.points) (cond (is_point p e.to) (e ∷ into) into) else [])
                  ≡ filter (λ d. is_point p d.to) (cond d (e ∷ left) left)
              elsewhere true = rw b rest
              elsewhere false = rw b rest

  edges_are : (ps : List Point) → map (edge_between graph.points) (flat_map open_into (map (node_with takes graph.points listed) ps))
      ≡ buffered ps (filter (λ e. takes e.to) listed)
  edges_are [] = refl
  edges_are (p ∷ ps) =
      map-append (edge_between graph.points) (open_into (node_with takes graph.points listed p)) _
      ∙ rw (shown_at p, edges_are ps) refl

  pub shown_once : IsPermutation (filter (λ e. takes e.to) listed) (point_edges graph)
  shown_once =
      let all : AllByRecursion (λ e. list_any (λ q. is_point q e.to) graph.points ≡ true) (filter (λ e. takes e.to) listed) =
      All-filter _ (λ e. takes e.to) listed
      (All-to (IsJoined graph.points) (λ e. list_any (λ q. is_point q e.to) graph.points ≡ true)
      listed (λ e both. numbered_among graph.points e.to both.1) shows.joined) in
      let is : point_edges graph ≡ buffered graph.points (filter (λ e. takes e.to) listed) =
      ap (λ (ns : List GraphNode). map (edge_between graph.points) (flat_map open_into ns)) shows.nodes_are ∙ edges_are graph.points in
      subst (IsPermutation (filter (λ e. takes e.to) listed)) (sym is) (gathered_once graph.points (filter (λ e. takes e.to) listed) distinct all)

pub once : (rows : Rows) (graph : Graph) → IsDistinct is_point graph.points → IsGraphOf rows graph
    → IsPermutation (edges_of graph.known rows) (point_edges graph)
once rows graph distinct beside = shown_once (takes_payments graph.known rows.nodes) (carrying rows) graph distinct beside.shows
