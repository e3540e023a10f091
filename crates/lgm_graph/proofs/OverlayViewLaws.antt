-- A view over an overlay has each edge of the rows over it once.
use Rattle.std.proofs.Common.{◌≡◌, inl, inr, ℕ, ◌-◌, ◌<◌, ◌≤◌, ◌^◌, ltb, Bool, true, false, ◌||◌, List, [], ◌∷◌, ◌++◌}
use Rattle.std.proofs.Common.{length, map, get_or, take, zero, suc, refl, sym, ap, subst, ◌∙◌, Option, Some, None, arith, true≢false}
use Rattle.std.specs.Prelude.{unwrap_or}
use Rattle.std.specs.Option.{option_map}
use Rattle.std.specs.List.{AllByRecursion, Contains, IsDistinct, filter, filter_map, list_any, slice_get}
use Rattle.std.specs.List.Sorted.{IsPermutation}
use Rattle.std.proofs.lemmas.Bool.{ltb-true, ltb-false}
use Rattle.std.proofs.lemmas.List.{length-map, length-take, get_or_past, map-append}
use Rattle.std.proofs.lemmas.List.Elements.{filter-append}
use Rattle.std.proofs.lemmas.Option.{slice_get-map, slice_get_past, get_or_from_slice_get}
use Rattle.lgm_wire.specs.declared.point.Point.{Point}
use Rattle.lgm_check.specs.declared.row.ChannelRow.{ChannelRow}
use Rattle.lgm_check.specs.declared.row.NodeRow.{NodeRow}
use Rattle.lgm_store.specs.Rows.{Rows, is_point, node_of, ends_at, ends_channel}
use Rattle.lgm_store.specs.Laws.{AreEnded}
use Rattle.lgm_store.proofs.ListLaws.{All-append, All-filter}
use Rattle.lgm_store.proofs.Points.{same_point, is_point-self}
use Rattle.lgm_graph.specs.declared.edge.Edge.{Edge}
use Rattle.lgm_graph.specs.Edges.{PointEdge, carrying, takes_payments}
use Rattle.lgm_graph.specs.Graph.{Graph, GraphNode, Shows, IsGraphOf, IsJoined, IsNumbered, bare_node, node_at, node_with, number_of, numbered_in, edges_leaving, edges_with, point_edges}
use Rattle.lgm_graph.specs.Overlay.{OverlayParts, is_used, firsts, limited, overlaid_edges}
use Rattle.lgm_graph.specs.inner.Overlaying.{NodeOverrides, Touched, ArePlaced, IsTouchedMore, AreReached, LeadsTo, AreApplied, IsOverriddenAt, overrides_of}
use Rattle.lgm_graph.specs.Places.{at_place, place_of}
use Rattle.lgm_graph.specs.inner.Overlaying.{nothing_of, overrides_at, overlaid_at, overlaid_by, overlaid_list, list_or, graph_over, node_over, extra_over}
use Rattle.lgm_graph.specs.inner.Sound.{IsSound}
use Rattle.lgm_graph.proofs.ChangeLaws.{node_is}
use Rattle.lgm_graph.proofs.NewNumberLaws.{number_at}
use Rattle.lgm_graph.proofs.ByNumber.{by_is}
use Rattle.lgm_graph.proofs.Further.{slice_left, slice_right}
use Rattle.lgm_graph.proofs.Overlaid.{laid_edges, joined_limited, joined_firsts, joined_left, base_at, behind}
use Rattle.lgm_graph.proofs.NodeListLaws.{edge_into, edge_out, out_there}
use Rattle.lgm_graph.proofs.PushedEdgeLaws.{found_passes}
use Rattle.lgm_graph.proofs.Members.{Among, Contains-Among}
use Rattle.lgm_graph.proofs.Numbers.{found_holds}
use Rattle.lgm_graph.proofs.Once.{shown_once}
use Rattle.lgm_graph.proofs.Places.{get_map}

unchanged : (f : Edge → Option Edge) (list : List Edge) → ((edge : Edge) → Among list edge → f edge ≡ Some edge) → filter_map f list ≡ list
unchanged f [] each = refl
unchanged f (e ∷ es) each =
    rw (each e (inl refl)) (ap (λ (l : List Edge). e ∷ l) (unchanged f es (λ d there. each d (inr there))))

slice_take : {X : Type 0} (xs : List X) (n k : ℕ) → k < n → slice_get (take n xs) k ≡ slice_get xs k
slice_take [] zero k lt = refl
slice_take [] (suc n) k lt = refl
slice_take (x ∷ xs) zero k lt = absurd (omega (arith, lt))
slice_take (x ∷ xs) (suc n) zero lt = refl
slice_take (x ∷ xs) (suc n) (suc k) lt = slice_take xs n k (omega (arith, lt))

-- ---- the lists that are read

module _ (graph : Graph) (accepts : Point → Bool) (edges : List PointEdge) (distinct : IsDistinct is_point graph.points)
    (shows : Shows accepts edges graph.points graph.nodes) (first last : Touched) (placed : ArePlaced last) (more : IsTouchedMore first last)
    (reached : AreReached graph last (length first.nodes)) where
  -- the overrides of a node beyond the first is nothing
  said_bare : (n : ℕ) (k : ℕ) (local : NodeOverrides) → slice_get last.nodes k ≡ Some local → local.node ≡ n → length first.nodes ≤ k
      → local ≡ nothing_of n
  said_bare n k local at node le =
      more.bare (k - length first.nodes) local (sym (slice_right first.nodes more.more k le) ∙ ap (λ l. slice_get l k) (sym more.nodes) ∙ at)
      ∙ ap nothing_of node

  said_at : (n k : ℕ) (local : NodeOverrides) → place_of last n ≡ suc k → slice_get last.nodes k ≡ Some local → overrides_at last n ≡ local
  said_at n k local there at =
      ap (λ j. unwrap_or (at_place last.nodes j) (nothing_of n)) there ∙ ap (λ (o : Option NodeOverrides). unwrap_or o (nothing_of n)) at

  -- an edge out of a node without overrides stays
  bare_stays : (edge : Edge) → overrides_at last edge.from ≡ nothing_of edge.from → overlaid_by last edge ≡ Some edge
  bare_stays edge bare = ap (λ local. overlaid_at local edge) bare

  -- an edge stays, or leads to a node that is touched
  stays_or : (edge : Edge) → Among (edges_leaving graph edge.from) edge → LeadsTo last edge
  stays_or edge there = by (place_of last edge.from) refl
    where
      by : (place : ℕ) → place_of last edge.from ≡ place → LeadsTo last edge
      by zero is = inl (bare_stays edge (ap (λ j. unwrap_or (at_place last.nodes j) (nothing_of edge.from)) is))
      by (suc k) is = which (placed.own edge.from k is) (ltb k (length first.nodes)) refl
        where
          which : (own : (local : NodeOverrides) × (slice_get last.nodes k ≡ Some local) × (local.node ≡ edge.from))
              → (b : Bool) → ltb k (length first.nodes) ≡ b → LeadsTo last edge
          which own true e =
              reached k (ltb-true k (length first.nodes) e) own.0 own.1 edge
              (subst (λ n. Contains (edges_leaving graph n) edge) (sym own.2) (Contains-Among (edges_leaving graph edge.from) edge there))
          which own false e =
              inl (bare_stays edge (said_at edge.from k own.0 is own.1
              ∙ said_bare edge.from k own.0 own.1 own.2 (ltb-false k (length first.nodes) e)))

  into_leads : (n : ℕ) (edge : Edge) → Among (node_at graph n).into edge → (edge.to ≡ n) × Among (edges_leaving graph edge.from) edge
  into_leads n edge there =
      let made = edge_into accepts graph.points distinct edges graph.nodes shows n edge there in (
        ap (λ (e : Edge). e.to) (sym made.2) ∙ made.3,
        subst (λ (e : Edge). Among (edges_leaving graph e.from) e) made.2
            (out_there accepts graph.points distinct edges graph.nodes shows made.0 made.1),
      )

  out_leads : (n : ℕ) (edge : Edge) → Among (edges_leaving graph n) edge → edge.from ≡ n
  out_leads n edge there =
      let made = edge_out accepts graph.points distinct edges graph.nodes shows n edge there in
      ap (λ (e : Edge). e.from) (sym made.2) ∙ made.3

  module _ (into out : List (List Edge))
      (into_is : into ≡ map (λ local. overlaid_list last (node_at graph local.node).into local.entering) last.nodes)
      (out_is : out ≡ map (λ local. overlaid_list last (node_at graph local.node).out local.leaving) (take (length first.nodes) last.nodes)) where
    pub into_at : (n : ℕ) → list_or into (place_of last n) (node_at graph n).into
        ≡ overlaid_list last (node_at graph n).into (overrides_at last n).entering
    into_at n = by (place_of last n) refl
      where
        by : (place : ℕ) → place_of last n ≡ place
            → list_or into (place_of last n) (node_at graph n).into ≡ overlaid_list last (node_at graph n).into (overrides_at last n).entering
        by zero is =
            let bare : overrides_at last n ≡ nothing_of n = ap (λ j. unwrap_or (at_place last.nodes j) (nothing_of n)) is in
            rw (bare, is) (sym (unchanged (overlaid_by last) (node_at graph n).into stays))
          where
            stays : (edge : Edge) → Among (node_at graph n).into edge → overlaid_by last edge ≡ Some edge
            stays edge there = which (stays_or edge (into_leads n edge there).1)
              where
                which : LeadsTo last edge → overlaid_by last edge ≡ Some edge
                which (inl same) = same
                which (inr touched) = absurd (touched (ap (place_of last) (into_leads n edge there).0 ∙ is))
        by (suc k) is =
            let own = placed.own n k is in
            let read : slice_get into k ≡ Some (overlaid_list last (node_at graph own.0.node).into own.0.entering) =
            ap (λ l. slice_get l k) into_is ∙ slice_get-map _ last.nodes k ∙ ap (option_map _) own.1 in
            ap (λ p. list_or into p (node_at graph n).into) is ∙ ap (λ o. unwrap_or o (node_at graph n).into) read
            ∙ ap (λ m. overlaid_list last (node_at graph m).into own.0.entering) own.2
            ∙ ap (λ (s : NodeOverrides). overlaid_list last (node_at graph n).into s.entering) (sym (said_at n k own.0 is own.1))

    pub out_at : (n : ℕ) → list_or out (place_of last n) (node_at graph n).out
        ≡ overlaid_list last (node_at graph n).out (overrides_at last n).leaving
    out_at n = by (place_of last n) refl
      where
        -- the list of a node without overrides
        lent : overrides_at last n ≡ nothing_of n → (node_at graph n).out ≡ overlaid_list last (node_at graph n).out (overrides_at last n).leaving
        lent bare =
            rw bare (sym (unchanged (overlaid_by last) (node_at graph n).out (λ edge there.
            bare_stays edge (let from = out_leads n edge there in ap (overrides_at last) from ∙ bare ∙ ap nothing_of (sym from)))))

        by : (place : ℕ) → place_of last n ≡ place
            → list_or out (place_of last n) (node_at graph n).out ≡ overlaid_list last (node_at graph n).out (overrides_at last n).leaving
        by zero is =
            ap (λ p. list_or out p (node_at graph n).out) is
            ∙ lent (ap (λ j. unwrap_or (at_place last.nodes j) (nothing_of n)) is)
        by (suc k) is = which (placed.own n k is) (ltb k (length first.nodes)) refl
          where
            which : (own : (local : NodeOverrides) × (slice_get last.nodes k ≡ Some local) × (local.node ≡ n)) → (b : Bool) → ltb k (length first.nodes) ≡ b
                → list_or out (place_of last n) (node_at graph n).out ≡ overlaid_list last (node_at graph n).out (overrides_at last n).leaving
            which own true e =
                let read : slice_get out k ≡ Some (overlaid_list last (node_at graph own.0.node).out own.0.leaving) =
                ap (λ l. slice_get l k) out_is ∙ slice_get-map _ (take (length first.nodes) last.nodes) k
                ∙ ap (option_map _) (slice_take last.nodes (length first.nodes) k (ltb-true k (length first.nodes) e) ∙ own.1) in
                ap (λ p. list_or out p (node_at graph n).out) is ∙ ap (λ o. unwrap_or o (node_at graph n).out) read
                ∙ ap (λ m. overlaid_list last (node_at graph m).out own.0.leaving) own.2
                ∙ ap (λ (s : NodeOverrides). overlaid_list last (node_at graph n).out s.leaving) (sym (said_at n k own.0 is own.1))
            which own false e =
                let le = ltb-false k (length first.nodes) e in
                let past : slice_get out k ≡ None = slice_get_past out k (omega (arith, le, ap length out_is, length-map (take (length first.nodes) last.nodes) (λ local. overlaid_list last (node_at graph local.node).out local.leaving), length-take (length first.nodes) last.nodes)) in
                ap (λ p. list_or out p (node_at graph n).out) is ∙ ap (λ o. unwrap_or o (node_at graph n).out) past
                ∙ lent (said_at n k own.0 is own.1 ∙ said_bare n k own.0 own.1 own.2 le)

-- ---- the graph over an overlay

-- the extra edges, and those of the map that are used, limited
abbrev pub laid_before : OverlayParts → List PointEdge → List PointEdge
laid_before overlay edges = extra_over overlay ++ map (limited overlay.limits) (filter (is_used overlay) edges)

module _ (overlay : OverlayParts) (graph : Graph) (added : List Point) (distinct : IsDistinct is_point (graph.points ++ added))
    (own : IsDistinct is_point graph.points) (joined : AllByRecursion (IsJoined (graph.points ++ added)) overlay.extra)
    (first last : Touched) (placed : ArePlaced last) (more : IsTouchedMore first last) (local : AreApplied (overrides_of overlay) (graph.points ++ added) first)
    (reached : AreReached graph last (length first.nodes)) (into out : List (List Edge))
    (into_is : into ≡ map (λ local. overlaid_list last (node_at graph local.node).into local.entering) last.nodes)
    (out_is : out ≡ map (λ local. overlaid_list last (node_at graph local.node).out local.leaving) (take (length first.nodes) last.nodes)) where
  abbrev points : List Point
  points = graph.points ++ added

  said_last : AreApplied (overrides_of overlay) points last
  said_last n p at = subst (IsOverriddenAt (overrides_of overlay) points p) (sym (more.same n)) (local n p at)

  module _ (accepts : Point → Bool) (edges : List PointEdge) (shows : Shows accepts edges graph.points graph.nodes) where
    extra_joined : AllByRecursion (IsJoined points) (extra_over overlay)
    extra_joined = joined_limited overlay points (firsts overlay.extra) (joined_firsts points [] overlay.extra tt joined)

    used_joined : AllByRecursion (IsJoined points) (map (limited overlay.limits) (filter (is_used overlay) edges))
    used_joined =
        joined_limited overlay points (filter (is_used overlay) edges)
        (All-filter (IsJoined points) (is_used overlay) edges (joined_left graph.points added distinct edges shows.joined))

    -- the edges of a node over the overlay
    both_with : (end : PointEdge → Point) → ((e : PointEdge) → end (limited overlay.limits e) ≡ end e)
        → ((e : PointEdge) → IsJoined graph.points e → IsNumbered graph.points (end e))
        → (f : GraphNode → List Edge) → f (bare_node false) ≡ []
        → ((p : Point) → f (node_with accepts graph.points edges p) ≡ edges_with end graph.points edges p)
        → (n : ℕ) (p : Point) → slice_get points n ≡ Some p
        → edges_with end points (extra_over overlay) p ++ filter_map (overlaid_by last) (f (node_at graph n))
        ≡ edges_with end points (laid_before overlay edges) p
    both_with end same ends f none is n p at =
        ap (λ (l : List Edge). edges_with end points (extra_over overlay) p ++ filter_map (overlaid_by last) l)
        (base_at graph.points added distinct accepts end edges graph.nodes shows ends f none is n p at)
        ∙ ap (λ (l : List Edge). edges_with end points (extra_over overlay) p ++ l)
        (laid_edges overlay points last said_last end same edges (joined_left graph.points added distinct edges shows.joined) p)
        ∙ sym (ap (map (numbered_in points)) (filter-append (λ e. is_point p (end e)) (extra_over overlay) used)
        ∙ map-append (numbered_in points) (filter (λ e. is_point p (end e)) (extra_over overlay)) (filter (λ e. is_point p (end e)) used))
      where
        used : List PointEdge
        used = map (limited overlay.limits) (filter (is_used overlay) edges)

    -- the graph, if the points take payments so
    pub shows_over : (takes : Point → Bool)
        → ((n : ℕ) (p : Point) → slice_get points n ≡ Some p → (get_or graph.nodes n (bare_node true)).accepts_payments ≡ takes p)
        → Shows takes (laid_before overlay edges) points (graph_over graph points last.places into out).nodes
    shows_over takes are = record {
      joined = All-append (IsJoined points) (extra_over overlay) (map (limited overlay.limits) (filter (is_used overlay) edges)) extra_joined used_joined;
      nodes_are = by_is (node_over graph last.places into out) (node_with takes points (laid_before overlay edges)) points
          (λ n p at. node_is _ _ (are n p at)
          (into_at graph accepts edges own shows first last placed more reached into out into_is out_is n
          ∙ ap (λ (l : List Edge). l ++ filter_map (overlaid_by last) (node_at graph n).into) (said_last n p at).entering
          ∙ both_with (λ e. e.to) (λ e. refl) (λ e both. both.1) (λ node. node.into) refl (λ p. refl) n p at)
          (out_at graph accepts edges own shows first last placed more reached into out into_is out_is n
          ∙ ap (λ (l : List Edge). l ++ filter_map (overlaid_by last) (node_at graph n).out) (said_last n p at).leaving
          ∙ both_with (λ e. e.from) (λ e. refl) (λ e both. both.0) (λ node. node.out) refl (λ p. refl) n p at));
    }

  pub sound_over : IsSound graph → length points < 2 ^ 32 → IsSound (graph_over graph points last.places into out)
  sound_over sound few = record {
    few = few;
    accepts = λ p. (get_or graph.nodes (number_of points p) (bare_node true)).accepts_payments;
    edges = laid_before overlay sound.edges;
    shows = shows_over sound.accepts sound.edges sound.shows _ (λ n p at.
        ap (λ (m : ℕ). (get_or graph.nodes m (bare_node true)).accepts_payments) (number_at points n p p distinct at (is_point-self p)).0);
  }

  module _ (rows : Rows) (ended : AreEnded rows) (beside : IsGraphOf rows graph) where
    -- a node that has a channel is numbered
    ends_numbered : (p : Point) (channels : List ChannelRow) → AllByRecursion (λ channel. IsNumbered graph.points channel.message.node_id_1
        × IsNumbered graph.points channel.message.node_id_2) channels → list_any (ends_at p) channels ≡ true → IsNumbered graph.points p
    ends_numbered p [] all is = absurd (true≢false (sym is))
    ends_numbered p (c ∷ cs) all is =
        by (ends_numbered p cs all.1) (is_point c.message.node_id_1 p) refl (is_point c.message.node_id_2 p) refl is
      where
        by : (list_any (ends_at p) cs ≡ true → IsNumbered graph.points p) → (a : Bool) → is_point c.message.node_id_1 p ≡ a
            → (b : Bool) → is_point c.message.node_id_2 p ≡ b
            → ((is_point c.message.node_id_1 p || is_point c.message.node_id_2 p) || list_any (ends_at p) cs) ≡ true → IsNumbered graph.points p
        by rest true a b e is = subst (IsNumbered graph.points) (same_point c.message.node_id_1 p a) all.0.0
        by rest false a true b is = subst (IsNumbered graph.points) (same_point c.message.node_id_2 p b) all.0.1
        by rest false a false b is = rest (rw (a, b) at is)

    -- a node without a channel takes payments
    takes_new : (p : Point) → (IsNumbered graph.points p → ⊥) → takes_payments graph.known rows.nodes p ≡ true
    takes_new p new = by (node_of rows.nodes p) refl
      where
        by : (o : Option NodeRow) → node_of rows.nodes p ≡ o → takes_payments graph.known rows.nodes p ≡ true
        by None is = rw is refl
        by (Some row) is =
            let ends = found_holds (λ r. ends_channel rows.channels r.message.node_id ≡ true) _ rows.nodes row ended is in
            let same : row.message.node_id ≡ p =
            same_point row.message.node_id p (found_passes (λ r. is_point r.message.node_id p) rows.nodes row is) in
            absurd (new (ends_numbered p rows.channels beside.ends (subst (λ q. ends_channel rows.channels q ≡ true) same ends)))

    abbrev takes : Point → Bool
    takes = takes_payments graph.known rows.nodes

    takes_over : (n : ℕ) (p : Point) → slice_get points n ≡ Some p → (get_or graph.nodes n (bare_node true)).accepts_payments ≡ takes p
    takes_over n p at = by (ltb n (length graph.points)) refl
      where
        by : (b : Bool) → ltb n (length graph.points) ≡ b → (get_or graph.nodes n (bare_node true)).accepts_payments ≡ takes p
        by true e =
            let lt = ltb-true n (length graph.points) e in
            ap (λ (l : List GraphNode). (get_or l n (bare_node true)).accepts_payments) beside.shows.nodes_are
            ∙ ap (λ (node : GraphNode). node.accepts_payments)
            (get_map (node_with takes graph.points (carrying rows)) graph.points n p (bare_node true) lt)
            ∙ ap takes (get_or_from_slice_get graph.points n p p (sym (slice_left graph.points added n lt) ∙ at))
        by false e =
            let le = ltb-false n (length graph.points) e in
            let past : length graph.nodes ≤ n =
            omega (arith, le, ap length beside.shows.nodes_are, length-map graph.points (node_with takes graph.points (carrying rows))) in
            ap (λ (node : GraphNode). node.accepts_payments) (get_or_past graph.nodes n (bare_node true) past)
            ∙ sym (takes_new p (behind graph.points added distinct n p at le))

    pub overlaid_once : IsPermutation (overlaid_edges graph.known rows overlay) (point_edges (graph_over graph points last.places into out))
    overlaid_once =
        subst (λ l. IsPermutation (filter (λ e. takes_payments graph.known rows.nodes e.to) l) (point_edges (graph_over graph points last.places into out)))
        (sym (map-append (limited overlay.limits) (firsts overlay.extra) (filter (is_used overlay) (carrying rows))))
        (shown_once takes (laid_before overlay (carrying rows)) (graph_over graph points last.places into out) distinct
        (shows_over takes (carrying rows) beside.shows takes takes_over))

-- ---- what a view over an overlay has

-- the same of points that are these
module _ (overlay : OverlayParts) (graph : Graph) (points added : List Point) (is : points ≡ graph.points ++ added) (distinct : IsDistinct is_point points)
    (own : IsDistinct is_point graph.points) (joined : AllByRecursion (IsJoined points) overlay.extra)
    (first last : Touched) (placed : ArePlaced last) (more : IsTouchedMore first last) (local : AreApplied (overrides_of overlay) points first)
    (reached : AreReached graph last (length first.nodes)) (into out : List (List Edge))
    (into_is : into ≡ map (λ local. overlaid_list last (node_at graph local.node).into local.entering) last.nodes)
    (out_is : out ≡ map (λ local. overlaid_list last (node_at graph local.node).out local.leaving) (take (length first.nodes) last.nodes)) where
  pub is_sound : IsSound graph → length points < 2 ^ 32 → IsSound (graph_over graph points last.places into out)
  is_sound sound few =
      subst (λ (ps : List Point). IsSound (graph_over graph ps last.places into out)) (sym is)
      (sound_over overlay graph added (subst (IsDistinct is_point) is distinct) own
      (subst (λ (ps : List Point). AllByRecursion (IsJoined ps) overlay.extra) is joined) first last placed more
      (subst (λ (ps : List Point). AreApplied (overrides_of overlay) ps first) is local) reached into out into_is out_is
      sound (subst (λ (ps : List Point). length ps < 2 ^ 32) is few))

  pub is_once : (rows : Rows) → AreEnded rows → IsGraphOf rows graph
      → IsPermutation (overlaid_edges graph.known rows overlay) (point_edges (graph_over graph points last.places into out))
  is_once rows ended beside =
      subst (λ (ps : List Point). IsPermutation (overlaid_edges graph.known rows overlay) (point_edges (graph_over graph ps last.places into out))) (sym is)
      (overlaid_once overlay graph added (subst (IsDistinct is_point) is distinct) own
      (subst (λ (ps : List Point). AllByRecursion (IsJoined ps) overlay.extra) is joined) first last placed more
      (subst (λ (ps : List Point). AreApplied (overrides_of overlay) ps first) is local) reached into out into_is out_is rows ended beside)
