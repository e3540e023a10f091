-- Edges listed one after the other.
use Rattle.std.proofs.Common.{◌≡◌, ℕ, ◌+◌, ◌<◌, Bool, true, false, not, List, [], ◌∷◌, ◌++◌, length, map, get_or, take}
use Rattle.std.proofs.Common.{zero, suc, refl, sym, ap, subst, ◌∙◌, Option, Some, None, option_to_list, append_assoc, arith}
use Rattle.std.specs.Option.{option_and_then, option_map}
use Rattle.std.specs.List.{AllByRecursion, IsDistinct}
use Rattle.std.proofs.lemmas.List.{length-map, map-append, take_more, append-nil}
use Rattle.lgm_wire.specs.declared.point.Point.{Point}
use Rattle.lgm_check.specs.declared.row.ChannelRow.{ChannelRow}
use Rattle.lgm_check.specs.declared.row.UpdateRow.{UpdateRow}
use Rattle.lgm_store.specs.declared.channel_info.ChannelInfo.{ChannelInfo}
use Rattle.lgm_store.specs.ChannelInfo.{update_in, stored_at}
use Rattle.lgm_store.specs.Rows.{Rows, is_point, update_of}
use Rattle.lgm_graph.specs.declared.edge.Edge.{Edge}
use Rattle.lgm_graph.specs.declared.nodes.Nodes.{Nodes}
use Rattle.lgm_graph.specs.Edges.{PointEdge, edge_on, end_of}
use Rattle.lgm_graph.specs.Graph.{IsJoined, IsNumbered, numbered_in, numbered_as, number_of}
use Rattle.lgm_graph.specs.inner.Sound.{graph_in, nodes_in, edge_changed, ShowsIn}
use Rattle.lgm_graph.specs.inner.Walk.{AreEdgesOf, KeepsNumbers, edge_of_direction, edges_of_channel}
use Rattle.lgm_graph.proofs.PushedEdgeLaws.{edge_from, edge_to, end_numbered, pushed, update_second}
use Rattle.lgm_graph.proofs.Places.{get_map}
use Rattle.lgm_graph.proofs.ListedEdgeLaws.{edges_kept, map_alike}
use Rattle.lgm_graph.proofs.Walked.{stored_update}
use Rattle.lgm_store.proofs.ListLaws.{All-append, All-to}

-- further numbers change none of them
pub edges_of_more : (old new : List Point) (edges : List PointEdge) (listed : List Edge) → KeepsNumbers old new
    → AreEdgesOf edges old listed → AreEdgesOf edges new listed
edges_of_more old new edges listed keeps are = record {
  joined = All-to (IsJoined old) (IsJoined new) edges (λ e both. ((keeps e.from both.0).1, (keeps e.to both.1).1)) are.joined;
  edges_are = are.edges_are ∙ map_alike (numbered_in old) (numbered_in new) edges (edges_kept old new edges keeps are.joined);
}

-- an edge of a direction joins the direction's ends
edge_ends : (updates : List UpdateRow) (channel : ChannelRow) (second : Bool) (edge : PointEdge) → edge_of_direction updates channel second ≡ Some edge
    → (edge.from ≡ end_of channel second) × (edge.to ≡ end_of channel (not second))
edge_ends updates channel second edge is = by (update_of updates channel.message.short_channel_id second) refl is
  where
    by : (o : Option UpdateRow) → update_of updates channel.message.short_channel_id second ≡ o
        → option_and_then (edge_on channel) (update_of updates channel.message.short_channel_id second)
        ≡ Some edge → (edge.from ≡ end_of channel second) × (edge.to ≡ end_of channel (not second))
    by None e is = let h : None ≡ Some edge = rw e at is in absurd cc
    by (Some row) e is =
        let own : edge_on channel row ≡ Some edge = rw e at is in
        let same = update_second updates channel.message.short_channel_id second row e in
        (edge_from channel row edge (sym own) ∙ ap (end_of channel) same, edge_to channel row edge (sym own) ∙ ap (λ b. end_of channel (not b)) same)

module _ (rows : Rows) (stored : ChannelInfo) (points : List Point) (own : stored ≡ stored_at rows stored.channel)
    (first : IsNumbered points stored.channel.message.node_id_1) (other : IsNumbered points stored.channel.message.node_id_2) where
  -- the edge of a direction, if it has one, after the others
  direction_written : (second : Bool) (from to : ℕ) (edges : List PointEdge) (before after : List Edge)
      → from ≡ number_of points (end_of stored.channel second) → to ≡ number_of points (end_of stored.channel (not second))
      → after ≡ before ++ option_to_list (option_map (λ e. numbered_as e from to) (option_and_then (edge_on stored.channel) (update_in second stored)))
      → AreEdgesOf edges points before → AreEdgesOf (edges ++ option_to_list (edge_of_direction rows.updates stored.channel second)) points after
  direction_written second from to edges before after from_is to_is after_is are =
      subst (λ ls. AreEdgesOf (edges ++ option_to_list (edge_of_direction rows.updates stored.channel second)) points ls)
      (sym (after_is ∙ ap (λ o. before ++ option_to_list (option_map (λ e. numbered_as e from to) o)) found))
      (by (edge_of_direction rows.updates stored.channel second) refl)
    where
      found : option_and_then (edge_on stored.channel) (update_in second stored) ≡ edge_of_direction rows.updates stored.channel second
      found = ap (option_and_then (edge_on stored.channel)) (ap (update_in second) own ∙ stored_update rows stored.channel second)

      by : (o : Option PointEdge) → edge_of_direction rows.updates stored.channel second ≡ o
          → AreEdgesOf (edges ++ option_to_list o) points (before ++ option_to_list (option_map (λ e. numbered_as e from to) o))
      by None e = rw (append-nil edges, append-nil before) are
      by (Some edge) e =
          let ends = edge_ends rows.updates stored.channel second edge e in
          let starts : IsNumbered points edge.from = subst (IsNumbered points) (sym ends.0) (end_numbered points stored.channel second first other) in
          let stops : IsNumbered points edge.to =
          subst (IsNumbered points) (sym ends.1)
          (end_numbered points stored.channel (not second) first other) in
          let listed_is : numbered_as edge from to ≡ numbered_in points edge =
          ap (λ n. numbered_as edge n to) (from_is ∙ ap (number_of points) (sym ends.0))
          ∙ ap (numbered_as edge (number_of points edge.from)) (to_is ∙ ap (number_of points) (sym ends.1)) in
          record {
            joined = All-append (IsJoined points) edges (edge ∷ []) are.joined ((starts, stops), tt);
            edges_are = ap (λ ls. ls ++ numbered_as edge from to ∷ []) are.edges_are ∙ ap (λ l. map (numbered_in points) edges ++ l ∷ []) listed_is
                ∙ sym (map-append (numbered_in points) edges (edge ∷ []));
          }

  -- those of both directions
  pub channel_written : (from to : ℕ) (edges : List PointEdge) (before mid after : List Edge)
      → from ≡ number_of points stored.channel.message.node_id_1 → to ≡ number_of points stored.channel.message.node_id_2
      → mid ≡ before ++ option_to_list (option_map (λ e. numbered_as e from to) (option_and_then (edge_on stored.channel) (update_in false stored)))
      → after ≡ mid ++ option_to_list (option_map (λ e. numbered_as e to from) (option_and_then (edge_on stored.channel) (update_in true stored)))
      → AreEdgesOf edges points before → AreEdgesOf (edges ++ edges_of_channel rows.updates stored.channel) points after
  channel_written from to edges before mid after from_is to_is mid_is after_is are =
      let one = direction_written false from to edges before mid from_is to_is mid_is are in
      subst (λ es. AreEdgesOf es points after)
      (append_assoc edges (option_to_list (edge_of_direction rows.updates stored.channel false))
      (option_to_list (edge_of_direction rows.updates stored.channel true)))
      (direction_written true to from (edges ++ option_to_list
      (edge_of_direction rows.updates stored.channel false)) mid after to_is from_is after_is one)

-- ---- one of them

All_at : {X : Type 0} (P : X → Type 0) (xs : List X) (i : ℕ) (d : X) → AllByRecursion P xs → i < length xs → P (get_or xs i d)
All_at P [] i d all lt = absurd (omega (arith, lt))
All_at P (x ∷ xs) zero d all lt = all.0
All_at P (x ∷ xs) (suc i) d all lt = All_at P xs i d all.1 (omega (arith, lt))

-- what is at an index of a list
place_of : {X : Type 0} (xs : List X) (i : ℕ) → i < length xs → (x : X) × (get_or xs i x ≡ x)
place_of [] i lt = absurd (omega (arith, lt))
place_of (x ∷ xs) zero lt = (x, refl)
place_of (x ∷ xs) (suc i) lt = place_of xs i (omega (arith, lt))

-- the listed edge at an index is that of the edge between points there
pub edge_at : (edges : List PointEdge) (points : List Point) (listed : List Edge) (i : ℕ) (next : Edge)
    → AreEdgesOf edges points listed → i < length listed → next ≡ get_or listed i next
    → (edge : PointEdge) × (take (i + 1) edges ≡ take i edges ++ edge ∷ []) × (next ≡ numbered_in points edge) × IsJoined points edge
edge_at edges points listed i next are lt is =
    let long : length listed ≡ length edges = ap length are.edges_are ∙ length-map edges (numbered_in points) in
    let within : i < length edges = omega (arith, lt, long) in
    let place = place_of edges i within in (
      place.0,
      take_more edges i place.0 within ∙ ap (λ e. take i edges ++ e ∷ []) place.1,
      is ∙ ap (λ ls. get_or ls i next) are.edges_are ∙ get_map (numbered_in points) edges i place.0 next within ∙ ap (numbered_in points) place.1,
      subst (IsJoined points) place.1 (All_at (IsJoined points) edges i place.0 are.joined within),
    )

-- ---- put in their lists

module _ (points : List Point) (listed : List Edge) (i : ℕ) (next : Edge) (lt : i < length listed) (is : next ≡ get_or listed i next) where
  -- the nodes that the next edge joins
  pub edge_within : (edges : List PointEdge) → AreEdgesOf edges points listed → (next.from < length points) × (next.to < length points)
  edge_within edges are =
      let found = edge_at edges points listed i next are lt is in
      let from = ap (λ (l : Edge). l.from) found.2 in
      let to = ap (λ (l : Edge). l.to) found.2 in
      (omega (arith, from, found.3.0), omega (arith, to, found.3.1))

  -- the next edge after the others of its nodes
  pub edge_put : (accepts : Point → Bool) (edges : List PointEdge) (old mid new : Nodes) → AreEdgesOf edges points listed
      → old.points.keys ≡ points → IsDistinct is_point old.points.keys
      → ((known : Option (List ℕ)) → graph_in known mid ≡ graph_in known old) → new.points.keys ≡ mid.points.keys
      → nodes_in new ≡ edge_changed next.from next.to (λ edges. edges ++ next ∷ []) (nodes_in mid)
      → ShowsIn accepts (take i edges) old → ShowsIn accepts (take (i + 1) edges) new
  edge_put accepts edges old mid new are own distinct same points_is nodes shows =
      let found = edge_at edges points listed i next are lt is in
      let edge = found.0 in
      let from = ap (λ (l : Edge). l.from) found.2 in
      let to = ap (λ (l : Edge). l.to) found.2 in
      let listed_is : next ≡ numbered_as edge next.from next.to =
      found.2 ∙ ap (λ n. numbered_as edge n (number_of points edge.to)) (sym from) ∙ ap (numbered_as edge next.from) (sym to) in
      subst (λ es. ShowsIn accepts es new) (sym found.1)
      (pushed accepts old mid new (take i edges) edge next.from next.to next distinct same (from
      ∙ ap (λ ps. number_of ps edge.from) (sym own)) (to ∙ ap (λ ps. number_of ps edge.to) (sym own))
      listed_is (subst (λ ps. IsJoined ps edge) (sym own) found.3) points_is nodes shows)
