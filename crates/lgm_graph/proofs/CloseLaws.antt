-- How a close changes the view of a map.
use Rattle.std.proofs.Common.{◌≡◌, ◌⊎◌, inl, inr, ℕ, eqb, Bool, true, false, not, ◌||◌, List, map, refl, sym, ap, ◌∙◌, Option, Some, true≢false}
use Rattle.std.specs.List.{AllByRecursion, filter}
use Rattle.lgm_wire.specs.declared.point.Point.{Point}
use Rattle.lgm_check.specs.declared.row.ChannelRow.{ChannelRow}
use Rattle.lgm_check.specs.declared.row.UpdateRow.{UpdateRow}
use Rattle.lgm_check.specs.declared.row.NodeRow.{NodeRow}
use Rattle.lgm_store.specs.Rows.{Rows, is_point, channel_of, ends_at, ends_channel}
use Rattle.lgm_store.specs.History.{without_channel, channels_without, updates_without, without_stored}
use Rattle.lgm_store.specs.Laws.{IsLawful}
use Rattle.lgm_store.proofs.ListLaws.{All-each, All-filter, All-to, any-kept, filter-all, filter-passes, filter-swap, filter-twice, find-kept}
use Rattle.lgm_store.proofs.Points.{same_point, is_point-self}
use Rattle.std.specs.Option.{option_and_then, option_map_or}
use Rattle.std.proofs.lemmas.Bool.{eqb-true, false_from_ne_true}
use Rattle.lgm_graph.specs.Known.{allows}
use Rattle.lgm_graph.specs.declared.nodes.Nodes.{Nodes}
use Rattle.lgm_graph.specs.Edges.{PointEdge, edge_of, edge_on, edge_in, end_of, carrying, takes_payments}
use Rattle.lgm_graph.specs.Graph.{GraphNode, IsGraphOf, IsJoined, edges_with, node_with, numbered_in}
use Rattle.lgm_graph.specs.inner.Sound.{graph_in, AreNodes, changed_at, is_not_of, looked_at}
use Rattle.lgm_graph.proofs.CarriedEdgeLaws.{filter_map-filter, IsOfChannel, carrying_of, edge_in-some}
use Rattle.lgm_graph.proofs.ListedEdgeLaws.{passing}
use Rattle.lgm_graph.proofs.ChangeLaws.{all_alike, node_is}
use Rattle.lgm_graph.proofs.KeptEdgeLaws.{filter_map-agree, one_channel, edges_keep}

-- ---- edges

-- the edges of a point without those of a channel
kept_edges : (end : PointEdge → Point) (points : List Point) (edges : List PointEdge) (id : ℕ) (q : Point)
    → filter (is_not_of id) (edges_with end points edges q) ≡ edges_with end points (filter (λ e. not (eqb e.scid id)) edges) q
kept_edges end points edges id q = edges_keep end points (λ e. not (eqb e.scid id)) (is_not_of id) edges q (All-each _ edges (λ e. refl))

-- at another point than the channel's two nodes there are none
other_edges : (end : PointEdge → Point) (points : List Point) (edges : List PointEdge) (id : ℕ) (first second : Point)
    → AllByRecursion (λ e. e.scid ≡ id → (end e ≡ first) ⊎ (end e ≡ second)) edges → (q : Point)
    → is_point first q ≡ false → is_point second q ≡ false
    → edges_with end points edges q ≡ edges_with end points (filter (λ e. not (eqb e.scid id)) edges) q
other_edges end points edges id first second ends q away other =
    ap (map (numbered_in points)) (sym (filter-swap (λ d. is_point q (end d)) (λ d. not (eqb d.scid id)) edges
    ∙ filter-all (λ d. not (eqb d.scid id)) (filter (λ d. is_point q (end d)) edges)
    (All-to _ _ (filter (λ d. is_point q (end d)) edges) apart (passing
    (λ d. d.scid ≡ id → (end d ≡ first) ⊎ (end d ≡ second)) (λ d. is_point q (end d)) edges ends))))
  where
    never : (e : PointEdge) → is_point q (end e) ≡ true → (end e ≡ first) ⊎ (end e ≡ second) → ⊥
    never e at (inl is) =
        let same : is_point first q ≡ true = ap (is_point first) (same_point q (end e) at ∙ is) ∙ is_point-self first in
        true≢false (sym same ∙ away)
    never e at (inr is) =
        let same : is_point second q ≡ true = ap (is_point second) (same_point q (end e) at ∙ is) ∙ is_point-self second in
        true≢false (sym same ∙ other)

    apart : (e : PointEdge) → (e.scid ≡ id → (end e ≡ first) ⊎ (end e ≡ second)) × (is_point q (end e) ≡ true) → not (eqb e.scid id) ≡ true
    apart e both = rw (false_from_ne_true (eqb e.scid id) (λ f. never e both.1 (both.0 (eqb-true e.scid id f)))) refl

-- ---- rows

module _ (known : Option (List ℕ)) (rows : Rows) (id : ℕ) (channel : ChannelRow)
    (stored : channel_of rows.channels id ≡ Some channel) (lawful : IsLawful rows) where
  abbrev first : Point
  first = channel.message.node_id_1

  abbrev second : Point
  second = channel.message.node_id_2

  closed : without_channel rows id ≡ without_stored rows id
  closed = rw stored refl

  other_channel : (row : UpdateRow) → not (eqb row.message.short_channel_id id) ≡ true
      → edge_in (channels_without rows.channels id) row ≡ edge_in rows.channels row
  other_channel row other =
      ap (λ (o : Option ChannelRow). edge_of_found o)
      (find-kept (λ c. eqb c.message.short_channel_id row.message.short_channel_id)
      (λ c. not (eqb c.message.short_channel_id id)) rows.channels (All-each _ rows.channels each))
    where
      edge_of_found : Option ChannelRow → Option PointEdge
      edge_of_found = λ o. option_and_then (λ c. edge_on c row) o

      each : (c : ChannelRow) → eqb c.message.short_channel_id row.message.short_channel_id ≡ true → not (eqb c.message.short_channel_id id) ≡ true
      each c e = ap (λ n. not (eqb n id)) (eqb-true c.message.short_channel_id row.message.short_channel_id e) ∙ other

  own_id : (row : UpdateRow) (edge : PointEdge) → edge_in rows.channels row ≡ Some edge
      → not (eqb edge.scid id) ≡ not (eqb row.message.short_channel_id id)
  unfolding edge_of
  own_id row edge is = let found = edge_in-some rows.channels row edge is in rw (found.2) refl

  pub carrying_closed : carrying (without_channel rows id) ≡ filter (λ e. not (eqb e.scid id)) (carrying rows)
  carrying_closed = ap carrying closed
      ∙ filter_map-agree (edge_in (channels_without rows.channels id)) (edge_in rows.channels) (updates_without rows.updates id)
      (All-to _ _ (updates_without rows.updates id) other_channel (filter-passes (λ row. not (eqb row.message.short_channel_id id)) rows.updates))
      ∙ filter_map-filter (edge_in rows.channels) (λ row. not (eqb row.message.short_channel_id id)) (λ e. not (eqb e.scid id)) own_id rows.updates

  -- the channel's edges are between its nodes
  of_id : (edge : PointEdge) → IsOfChannel rows.channels edge → edge.scid ≡ id
      → (edge.from ≡ end_of channel edge.second) × (edge.to ≡ end_of channel (not edge.second))
  of_id edge of same =
      let found : channel_of rows.channels id ≡ Some of.channel = ap (channel_of rows.channels) (sym same) ∙ of.stored in
      let one : Some of.channel ≡ Some channel = sym found ∙ stored in
      let is : of.channel ≡ channel = cc in
      (of.from ∙ ap (λ (c : ChannelRow). end_of c edge.second) is, of.to ∙ ap (λ (c : ChannelRow). end_of c (not edge.second)) is)

  either : (b : Bool) (p : Point) → p ≡ end_of channel b → (p ≡ first) ⊎ (p ≡ second)
  either true p is = inr is
  either false p is = inl is

  all_from : AllByRecursion (λ e. e.scid ≡ id → (e.from ≡ first) ⊎ (e.from ≡ second)) (carrying rows)
  all_from = All-to (IsOfChannel rows.channels) (λ e. e.scid ≡ id → (e.from ≡ first) ⊎ (e.from ≡ second)) (carrying rows)
      (λ e of same. either e.second e.from (of_id e of same).0) (carrying_of rows.channels rows.updates)

  all_to : AllByRecursion (λ e. e.scid ≡ id → (e.to ≡ first) ⊎ (e.to ≡ second)) (carrying rows)
  all_to = All-to (IsOfChannel rows.channels) (λ e. e.scid ≡ id → (e.to ≡ first) ⊎ (e.to ≡ second)) (carrying rows)
      (λ e of same. either (not e.second) e.to (of_id e of same).1) (carrying_of rows.channels rows.updates)

  -- ---- nodes

  still_ended : (q : Point) → is_point first q ≡ false → is_point second q ≡ false
      → ends_channel (channels_without rows.channels id) q ≡ ends_channel rows.channels q
  still_ended q away other = any-kept (ends_at q) (λ c. not (eqb c.message.short_channel_id id)) rows.channels
      (All-to _ _ rows.channels each (one_channel rows.channels id channel lawful.ascend.channels stored))
    where
      each : (c : ChannelRow) → (c.message.short_channel_id ≡ id → c ≡ channel) → ends_at q c ≡ true → not (eqb c.message.short_channel_id id) ≡ true
      each c one at = rw (false_from_ne_true (eqb c.message.short_channel_id id) (λ f.
          let own : c ≡ channel = one (eqb-true c.message.short_channel_id id f) in
          let never : ends_at q channel ≡ true = ap (ends_at q) (sym own) ∙ at in
          let none : (false || false) ≡ true = rw (away, other) at never in
          cc)) refl

  other_node : (q : Point) → is_point first q ≡ false → is_point second q ≡ false
      → takes_payments known (without_channel rows id).nodes q ≡ takes_payments known rows.nodes q
  other_node q away other =
      ap (λ (r : Rows). takes_payments known r.nodes q) closed
      ∙ ap taken (find-kept (λ row. is_point row.message.node_id q) (λ row. ends_channel (channels_without
      rows.channels id) row.message.node_id) rows.nodes (All-to _ _ rows.nodes each lawful.ended))
    where
      taken : Option NodeRow → Bool
      taken = λ o. option_map_or (λ (row : NodeRow). allows known row.message.features) o true

      each : (row : NodeRow) → ends_channel rows.channels row.message.node_id ≡ true
          → is_point row.message.node_id q ≡ true
          → ends_channel (channels_without rows.channels id) row.message.node_id ≡ true
      each row ended is =
          let same : row.message.node_id ≡ q = same_point row.message.node_id q is in
          ap (ends_channel (channels_without rows.channels id)) same ∙ still_ended q away other ∙ ap (ends_channel rows.channels) (sym same) ∙ ended

  -- closed at both of the channel's nodes, each node is as without the channel
  abbrev closed_node : List Point → Point → GraphNode
  closed_node points = node_with (takes_payments known (without_channel rows id).nodes) points (filter (λ e. not (eqb e.scid id)) (carrying rows))

  abbrev close_node : Point → GraphNode → GraphNode
  close_node = looked_at known (without_channel rows id).nodes (is_not_of id)

  each : (points : List Point) (q : Point)
      → changed_at second close_node (changed_at first close_node (node_with (takes_payments known rows.nodes) points (carrying rows))) q
      ≡ closed_node points q
  each points q = by (is_point first q) refl (is_point second q) refl
    where
      kept : (end : PointEdge → Point) → filter (is_not_of id) (edges_with end points (carrying rows) q)
          ≡ edges_with end points (filter (λ e. not (eqb e.scid id)) (carrying rows)) q
      kept end = kept_edges end points (carrying rows) id q

      twice : (end : PointEdge → Point) → filter (is_not_of id) (filter (is_not_of id) (edges_with end points (carrying rows) q))
          ≡ edges_with end points (filter (λ e. not (eqb e.scid id)) (carrying rows)) q
      twice end = filter-twice (is_not_of id) (edges_with end points (carrying rows) q) ∙ kept end

      by : (f : Bool) → is_point first q ≡ f → (s : Bool) → is_point second q ≡ s
          → changed_at second close_node (changed_at first close_node (node_with (takes_payments known rows.nodes) points (carrying rows))) q
          ≡ closed_node points q
      by true f true s = rw (s, f) (node_is _ _ refl (twice (λ e. e.to)) (twice (λ e. e.from)))
      by true f false s = rw (s, f) (node_is _ _ refl (kept (λ e. e.to)) (kept (λ e. e.from)))
      by false f true s = rw (s, f) (node_is _ _ refl (kept (λ e. e.to)) (kept (λ e. e.from)))
      by false f false s = rw (s, f) (node_is _ _ (sym (other_node q f s))
          (other_edges (λ e. e.to) points (carrying rows) id first second all_to q f s)
          (other_edges (λ e. e.from) points (carrying rows) id first second all_from q f s))

  -- ---- the view

  pub node_closed : (after : Rows) → after ≡ without_channel rows id → (old new : Nodes) (one two : Point)
      → one ≡ first → two ≡ second → IsGraphOf rows (graph_in known old)
      → new.points.keys ≡ old.points.keys
      → AreNodes (changed_at two (looked_at known after.nodes (is_not_of id)) (changed_at one (looked_at known after.nodes (is_not_of id))
      (node_with (takes_payments known rows.nodes) old.points.keys (carrying rows)))) new
      → IsGraphOf after (graph_in known new)
  node_closed after is old new one two one_is two_is graph points nodes = rw is (record {
    ends = rw (ap (λ (r : Rows). r.channels) closed, points) (All-filter _ (λ c. not (eqb c.message.short_channel_id id)) rows.channels graph.ends);
    shows = record {
      joined = rw (carrying_closed, points) (All-filter (IsJoined old.points.keys) (λ e. not (eqb e.scid id)) (carrying rows) graph.shows.joined);
      nodes_are = nodes ∙ rw (is, one_is, two_is, points, carrying_closed) (all_alike _ _ old.points.keys (each old.points.keys));
    };
  })
