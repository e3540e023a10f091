-- How an update changes the view of a map.
use Rattle.std.proofs.Common.{◌≡◌, ℕ, Bool, false, not, List, ◌++◌, get_or}
use Rattle.std.proofs.Common.{refl, sym, ap, ◌∙◌, Option, Some, None, option_to_list, IfSome}
use Rattle.std.specs.Option.{option_map, option_and_then}
use Rattle.std.specs.List.{AllByRecursion, IsDistinct, filter}
use Rattle.std.specs.declared.cmp.Ordering.{Ordering}
use Rattle.std.specs.declared.cmp.Ordering.TheVariants.{Less, Equal, Greater}
use Rattle.std.specs.Ordering.{nat_cmp, bool_cmp, ordering_then, is_lt, is_gt}
use Rattle.lgm_wire.specs.declared.point.Point.{Point}
use Rattle.lgm_check.specs.declared.row.ChannelRow.{ChannelRow}
use Rattle.lgm_check.specs.declared.row.UpdateRow.{UpdateRow}
use Rattle.lgm_store.specs.Rows.{Rows, IsAscending, is_second, is_point, channel_of, put, by_direction}
use Rattle.lgm_store.specs.History.{with_update}
use Rattle.lgm_store.proofs.ListLaws.{All-append, All-filter, All-to}
use Rattle.lgm_store.specs.inner.SameKeys.{same_id}
use Rattle.lgm_store.proofs.Lists.{same_bool}
use Rattle.lgm_graph.specs.declared.edge.Edge.{Edge}
use Rattle.lgm_graph.specs.declared.nodes.Nodes.{Nodes}
use Rattle.lgm_graph.specs.Edges.{PointEdge, edge_of, edge_on, edge_in, end_of, carrying, takes_payments}
use Rattle.lgm_graph.specs.Graph.{GraphNode, bare_node, node_with, number_of, IsGraphOf, IsNumbered, IsJoined, numbered_in, numbered_as}
use Rattle.lgm_graph.specs.inner.Lists.{to_key, edge_key, IsCut, put_at}
use Rattle.lgm_graph.specs.inner.Sound.{graph_in, nodes_in, edge_changed}
use Rattle.lgm_graph.proofs.Numbers.{ends_numbered, get_number}
use Rattle.lgm_graph.proofs.Places.{get_map}
use Rattle.lgm_graph.proofs.ChangeLaws.{shows_changed}
use Rattle.lgm_graph.proofs.PushedEdgeLaws.{same_points, same_nodes}
use Rattle.lgm_graph.proofs.CarriedEdgeLaws.{IsOfChannel, carrying_of, carrying_cut, carrying_put, edge_in-some}
use Rattle.lgm_graph.proofs.ListedEdgeLaws.{edges_cut, edges_put}

at_key : (id : ℕ) (second : Bool) (edge : PointEdge) → to_key id second edge ≡ Equal → (edge.scid ≡ id) × (edge.second ≡ second)
at_key id second edge e = by (nat_cmp edge.scid id) refl e
  where
    by : (o : Ordering) → nat_cmp edge.scid id ≡ o → ordering_then o (bool_cmp edge.second second) ≡ Equal → (edge.scid ≡ id) × (edge.second ≡ second)
    by Less is e = absurd cc
    by Equal is e = (same_id edge.scid id is, same_bool edge.second second e)
    by Greater is e = absurd cc

All_put : {X : Type 0} (P : X → Type 0) (f : X → Ordering) (xs : List X) (o : Option X) → AllByRecursion P xs
    → IfSome o P → AllByRecursion P (put_at f xs o)
All_put P f xs o all new = All-append P (filter (λ x. is_lt (f x)) xs ++ option_to_list o) (filter (λ x. is_gt (f x)) xs)
    (All-append P (filter (λ x. is_lt (f x)) xs) (option_to_list o) (All-filter P (λ x. is_lt (f x)) xs all)
    (one o new)) (All-filter P (λ x. is_gt (f x)) xs all)
  where
    one : (o : Option _) → IfSome o P → AllByRecursion P (option_to_list o)
    one None h = tt
    one (Some x) h = (h, tt)

module _ (known : Option (List ℕ)) (rows : Rows) (row : UpdateRow) (channel : ChannelRow)
    (stored : channel_of rows.channels row.message.short_channel_id ≡ Some channel)
    (ascend : IsAscending rows) where
  abbrev key : PointEdge → Ordering
  key = to_key row.message.short_channel_id (is_second row)

  -- the nodes of the update's edge
  abbrev pub start : Point
  start = end_of channel (is_second row)

  abbrev pub target : Point
  target = end_of channel (not (is_second row))

  updated : with_update rows row ≡ record rows { updates = put by_direction rows.updates row }
  updated = rw stored refl

  -- an edge of the update's key is of the channel
  of_key : (edge : PointEdge) → IsOfChannel rows.channels edge → key edge ≡ Equal → (edge.from ≡ start) × (edge.to ≡ target)
  of_key edge of e =
      let same = at_key row.message.short_channel_id (is_second row) edge e in
      let found : channel_of rows.channels row.message.short_channel_id ≡ Some of.channel = ap (channel_of rows.channels) (sym same.0) ∙ of.stored in
      let one : Some of.channel ≡ Some channel = sym found ∙ stored in
      let is : of.channel ≡ channel = cc in (
        of.from ∙ ap (λ (c : ChannelRow). end_of c edge.second) is ∙ ap (end_of channel) same.1,
        of.to ∙ ap (λ (c : ChannelRow). end_of c (not edge.second)) is ∙ ap (λ (b : Bool). end_of channel (not b)) same.1,
      )

  -- and so is its own
  own_ends : (edge : PointEdge) → edge_in rows.channels row ≡ Some edge → (edge.from ≡ start) × (edge.to ≡ target)
  unfolding edge_of
  own_ends edge is =
      let found = edge_in-some rows.channels row edge is in
      let one : Some found.0 ≡ Some channel = sym found.1 ∙ stored in
      let same : found.0 ≡ channel = cc in
      rw (found.2) (ap (λ (c : ChannelRow). end_of c (is_second row)) same, ap (λ (c : ChannelRow). end_of c (not (is_second row))) same)

  cut : IsCut key (carrying rows)
  cut = carrying_cut rows.channels rows.updates row ascend.updates

  all_from : AllByRecursion (λ e. key e ≡ Equal → e.from ≡ start) (carrying rows)
  all_from =
      All-to (IsOfChannel rows.channels) (λ e. key e ≡ Equal → e.from ≡ start) (carrying rows)
      (λ e of is. (of_key e of is).0) (carrying_of rows.channels rows.updates)

  all_to : AllByRecursion (λ e. key e ≡ Equal → e.to ≡ target) (carrying rows)
  all_to =
      All-to (IsOfChannel rows.channels) (λ e. key e ≡ Equal → e.to ≡ target) (carrying rows)
      (λ e of is. (of_key e of is).1) (carrying_of rows.channels rows.updates)

  in_row : edge_in rows.channels row ≡ edge_on channel row
  in_row = ap (λ o. option_and_then (λ channel. edge_on channel row) o) stored

  module _ (points : List Point) (nodes : List GraphNode)
      (graph : IsGraphOf rows (record { known = known; points = points; nodes = nodes })) where
    start_there : IsNumbered points start
    start_there = ends_numbered points rows.channels row.message.short_channel_id channel (is_second row) graph.ends stored

    target_there : IsNumbered points target
    target_there = ends_numbered points rows.channels row.message.short_channel_id channel (not (is_second row)) graph.ends stored

    -- the node of a point
    node_there : (p : Point) → IsNumbered points p
        → get_or nodes (number_of points p) (bare_node false) ≡ node_with (takes_payments known rows.nodes) points (carrying rows) p
    node_there p there =
        ap (λ ns. get_or ns (number_of points p) (bare_node false)) graph.shows.nodes_are
        ∙ get_map (node_with (takes_payments known rows.nodes) points (carrying rows)) points (number_of points p) p (bare_node false) there
        ∙ ap (node_with (takes_payments known rows.nodes) points (carrying rows)) (get_number points p p there)

    -- the edges of both ends are in order
    pub into_cut : IsCut (edge_key row.message.short_channel_id (is_second row)) (get_or nodes (number_of points target) (bare_node false)).into
    into_cut = rw (node_there target target_there)
        (edges_cut (λ e. e.to) points row.message.short_channel_id (is_second row) (carrying rows)
        (edge_in rows.channels row) target cut all_to (λ e is. (own_ends e is).1) target)

    pub out_cut : IsCut (edge_key row.message.short_channel_id (is_second row)) (get_or nodes (number_of points start) (bare_node false)).out
    out_cut = rw (node_there start start_there)
        (edges_cut (λ e. e.from) points row.message.short_channel_id (is_second row) (carrying rows)
        (edge_in rows.channels row) start cut all_from (λ e is. (own_ends e is).0) start)

    own_joined : (o : Option PointEdge) → edge_in rows.channels row ≡ o → IfSome o (IsJoined points)
    own_joined None is = tt
    own_joined (Some edge) is = let ends = own_ends edge is in (rw (ends.0) start_there, rw (ends.1) target_there)

    -- the edge by the numbers of its ends
    numbered : (o : Option PointEdge) → edge_in rows.channels row ≡ o → option_map (λ e.
        numbered_as e (number_of points start) (number_of points target)) o ≡ option_map (numbered_in points) o
    numbered None is = refl
    numbered (Some edge) is = let ends = own_ends edge is in rw (ends.0, ends.1) refl

    carrying_updated : carrying (with_update rows row) ≡ put_at key (carrying rows) (edge_in rows.channels row)
    carrying_updated = ap carrying updated ∙ carrying_put rows.channels rows.updates row

    -- the view after the edge is inserted at both nodes
    pub graph_updated : (edge : Option Edge) (new : List GraphNode) → IsDistinct is_point points
        → edge ≡ option_map (λ e. numbered_as e (number_of points start) (number_of points target)) (edge_on channel row)
        → new ≡ edge_changed (number_of points start) (number_of points target)
        (λ listed. put_at (edge_key row.message.short_channel_id (is_second row)) listed edge) nodes
        → IsGraphOf (with_update rows row) (record { known = known; points = points; nodes = new })
    graph_updated edge new distinct edge_is new_is = record {
      ends = rw (ap (λ (r : Rows). r.channels) updated) graph.ends;
      shows = rw (ap (λ (r : Rows). r.nodes) updated, carrying_updated, new_is, own)
          (shows_changed (takes_payments known rows.nodes) points (carrying rows) (put_at key (carrying rows) (edge_in rows.channels row))
          (λ listed. put_at (edge_key row.message.short_channel_id (is_second row)) listed (option_map (numbered_in points) (edge_in rows.channels row)))
          start target distinct start_there target_there
          (edges_put (λ e. e.from) points row.message.short_channel_id (is_second row) (carrying rows)
          (edge_in rows.channels row) start cut all_from (λ e is. (own_ends e is).0))
          (edges_put (λ e. e.to) points row.message.short_channel_id (is_second row) (carrying rows)
          (edge_in rows.channels row) target cut all_to (λ e is. (own_ends e is).1))
          nodes graph.shows
          (All_put (IsJoined points) key (carrying rows) (edge_in rows.channels row) graph.shows.joined (own_joined (edge_in rows.channels row) refl)));
    }
      where
        own : edge ≡ option_map (numbered_in points) (edge_in rows.channels row)
        own =
            edge_is ∙ ap (option_map (λ e. numbered_as e (number_of points start) (number_of points target))) (sym in_row)
            ∙ numbered (edge_in rows.channels row) refl

-- the same for the nodes as they are stored
pub node_updated : (known : Option (List ℕ)) (rows after : Rows) (row : UpdateRow) (channel : ChannelRow)
    (stored : channel_of rows.channels row.message.short_channel_id ≡ Some channel) → IsAscending rows
    → after ≡ with_update rows row → (old mid new : Nodes) → IsDistinct is_point old.points.keys
    → IsGraphOf rows (graph_in known old) → ((k : Option (List ℕ)) → graph_in k mid ≡ graph_in k old)
    → (id from to : ℕ) (second : Bool) (edge : Option Edge) → id ≡ row.message.short_channel_id → second ≡ is_second row
    → from ≡ number_of old.points.keys (end_of channel second) → to ≡ number_of old.points.keys (end_of channel (not second))
    → edge ≡ option_map (λ e. numbered_as e from to) (edge_on channel row)
    → new.points.keys ≡ mid.points.keys
    → nodes_in new ≡ edge_changed from to (λ listed. put_at (edge_key id second) listed edge) (nodes_in mid)
    → IsGraphOf after (graph_in known new)
node_updated known rows after row channel stored ascend after_is old mid new distinct graph same id from to
    second edge id_is second_is from_is to_is edge_is points nodes =
    let starts = from_is ∙ ap (λ b. number_of old.points.keys (end_of channel b)) second_is in
    let ends = to_is ∙ ap (λ b. number_of old.points.keys (end_of channel (not b))) second_is in
    rw (after_is, points, same_points old mid same)
    (graph_updated known rows row channel stored ascend old.points.keys (nodes_in old) graph edge
    (nodes_in new) distinct (edge_is ∙ rw (starts, ends) refl)
    (nodes ∙ rw (same_nodes old mid same, starts, ends, id_is, second_is) refl))
