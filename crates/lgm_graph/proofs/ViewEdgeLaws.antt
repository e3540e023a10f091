-- A view of rows has exactly their edges.
use Rattle.std.proofs.Common.{◌≡◌, ◌⊎◌, inl, inr, ◌↔◌, ℕ, Bool, true, false, not, List, [], arith}
use Rattle.std.proofs.Common.{◌∷◌, refl, sym, ap, ◌∙◌, Option, Some, None}
use Rattle.std.specs.List.{IsDistinct, Contains, filter_map, cons_option}
use Rattle.std.specs.declared.cmp.Ordering.{Ordering}
use Rattle.std.specs.declared.cmp.Ordering.TheVariants.{Less, Equal, Greater}
use Rattle.std.specs.Ordering.{ordering_reverse}
use Rattle.lgm_store.specs.Keys.{direction_cmp}
use Rattle.lgm_wire.specs.declared.point.Point.{Point}
use Rattle.lgm_check.specs.declared.row.ChannelRow.{ChannelRow}
use Rattle.lgm_check.specs.declared.row.UpdateRow.{UpdateRow}
use Rattle.lgm_store.specs.Rows.{Rows, IsAscending, is_point, is_second, channel_of}
use Rattle.lgm_store.proofs.Lists.{direction_total}
use Rattle.lgm_graph.specs.Edges.{PointEdge}
use Rattle.lgm_graph.specs.Edges.{edge_of, edge_in, end_of, carrying, edges_of, takes_payments, AreDirections, AreKeyed}
use Rattle.lgm_graph.specs.Graph.{Graph, GraphNode, IsGraphOf, bare_node, node_at, open_into, number_of, numbered_in, edge_between, edges, point_edges}
use Rattle.lgm_graph.specs.inner.Lists.{to_key, IsCut}
use Rattle.lgm_graph.proofs.CarriedEdgeLaws.{IsOfChannel, carrying_of, carrying_cut, edge_in-some}
use Rattle.lgm_graph.proofs.Members.{Among, Contains-Among, Among-Contains, Among-map, Among-mapped, Among-passes, Among-passed, All_among}
use Rattle.lgm_graph.proofs.NodeListLaws.{flat_in, flat_out, opened, open_in, number_node, joined_one, edge_into, into_there, back_again}

module _ (rows : Rows) (graph : Graph) (distinct : IsDistinct is_point graph.points) (beside : IsGraphOf rows graph) where
  abbrev takes_to : PointEdge → Bool
  takes_to edge = takes_payments graph.known rows.nodes edge.to

  abbrev takes : Point → Bool
  takes = takes_payments graph.known rows.nodes

  stored_numbered : (edge : PointEdge) → Among (edges_of graph.known rows) edge → Among (edges graph) (numbered_in graph.points edge)
  stored_numbered edge there =
      let passed = Among-passed takes_to (carrying rows) edge there in
      let both = joined_one takes graph.points distinct (carrying rows) graph.nodes beside.shows edge passed.0 in
      let n = number_of graph.points edge.to in
      let flag : (node_at graph n).accepts_payments ≡ true =
      ap (λ (node : GraphNode). node.accepts_payments) (number_node takes graph.points distinct (carrying rows) graph.nodes beside.shows edge.to both.1)
      ∙ passed.1 in
      flat_in open_into graph.nodes n (bare_node false) (numbered_in graph.points edge) refl
      (open_in (node_at graph n) (numbered_in graph.points edge) flag
      (into_there takes graph.points distinct (carrying rows) graph.nodes beside.shows edge passed.0))

  stored_edge : (edge : PointEdge) → Among (point_edges graph) edge → Among (edges_of graph.known rows) edge
  stored_edge edge there =
      let listed = Among-mapped (edge_between graph.points) (edges graph) edge there in
      let place = flat_out open_into graph.nodes (bare_node false) listed.0 listed.1 in
      let at = opened (node_at graph place.0) listed.0 place.1 in
      let made = edge_into takes graph.points distinct (carrying rows) graph.nodes beside.shows place.0 listed.0 at.1 in
      let both = joined_one takes graph.points distinct (carrying rows) graph.nodes beside.shows made.0 made.1 in
      let own : made.0 ≡ edge =
      sym (back_again takes graph.points distinct (carrying rows) graph.nodes beside.shows made.0 both)
      ∙ ap (edge_between graph.points) made.2 ∙ listed.2 in
      let flag : takes_to made.0 ≡ true =
      sym (ap (λ (node : GraphNode). node.accepts_payments) (number_node takes graph.points distinct (carrying rows) graph.nodes beside.shows made.0.to both.1))
      ∙ ap (λ n. (node_at graph n).accepts_payments) made.3 ∙ at.0 in
      rw (← own) (Among-passes takes_to (carrying rows) made.0 made.1 flag)

  pub holds : (edge : PointEdge) → Contains (point_edges graph) edge ↔ Contains (edges_of graph.known rows) edge
  holds edge = (
    λ there. Contains-Among (edges_of graph.known rows) edge (stored_edge edge (Among-Contains (point_edges graph) edge there)),
    λ there. let among = Among-Contains (edges_of graph.known rows) edge there in
        let both = joined_one takes graph.points distinct (carrying rows) graph.nodes beside.shows edge (Among-passed takes_to (carrying rows) edge among).0 in
        Contains-Among (point_edges graph) edge (rw (← back_again takes graph.points distinct (carrying rows) graph.nodes beside.shows edge both)
        (Among-map (edge_between graph.points) (edges graph) (numbered_in graph.points edge) (stored_numbered edge among))),
  )

-- ---- directions

Among-filter_map : {X Y : Type 0} (g : X → Option Y) (xs : List X) (y : Y) → Among (filter_map g xs) y → (x : X) × Among xs x × (g x ≡ Some y)
Among-filter_map g [] y none = absurd none
Among-filter_map g (x ∷ xs) y there = by (Among-filter_map g xs y) (g x) refl there
  where
    by : (Among (filter_map g xs) y → (z : _) × Among xs z × (g z ≡ Some y)) → (o : Option _) → g x ≡ o
        → Among (cons_option (g x) (filter_map g xs)) y → (z : _) × Among (x ∷ xs) z × (g z ≡ Some y)
    by others None is there = let rest = others (rw is at there) in (rest.0, inr rest.1, rest.2)
    by others (Some z) is there = which (rw is at there)
      where
        which : (z ≡ y) ⊎ Among (filter_map g xs) y → (w : _) × Among (x ∷ xs) w × (g w ≡ Some y)
        which (inl same) = (x, inl refl, is ∙ ap Some same)
        which (inr more) = let rest = others more in (rest.0, inr rest.1, rest.2)

-- of the comparisons one element is at the cut
cut_once : {X : Type 0} (f : X → Ordering) (xs : List X) (x y : X) → IsCut f xs → Among xs x → Among xs y → f x ≡ Equal → f y ≡ Equal → x ≡ y
cut_once f [] x y cut none there one two = absurd none
cut_once f (z ∷ zs) x y (inl below) (inl same) there one two = absurd (let l : f z ≡ Less = below.0 in let e : f z ≡ Equal = ap f same ∙ one in cc)
cut_once f (z ∷ zs) x y (inl below) (inr more) (inl same) one two =
    absurd (let l : f z ≡ Less = below.0 in let e : f z ≡ Equal = ap f same ∙ two in cc)
cut_once f (z ∷ zs) x y (inl below) (inr more) (inr also) one two = cut_once f zs x y below.1 more also one two
cut_once f (z ∷ zs) x y (inr above) (inl same) (inl also) one two = sym same ∙ also
cut_once f (z ∷ zs) x y (inr above) (inl same) (inr also) one two =
    absurd (let g : f y ≡ Greater = All_among (λ w. f w ≡ Greater) zs y above.1 also in cc)
cut_once f (z ∷ zs) x y (inr above) (inr more) there one two = absurd (let g : f x ≡ Greater = All_among (λ w. f w ≡ Greater) zs x above.1 more in cc)

other_direction : (b c : Bool) → (b ≡ c) ⊎ (not b ≡ c)
other_direction true true = inl refl
other_direction true false = inr refl
other_direction false true = inr refl
other_direction false false = inl refl

twice_not : (b : Bool) → not (not b) ≡ b
twice_not b = grind arith

self_equal : (o : Ordering) → o ≡ ordering_reverse o → o ≡ Equal
self_equal Less e = absurd cc
self_equal Equal e = refl
self_equal Greater e = absurd cc

key_of : (channels : List ChannelRow) (row : UpdateRow) (e : PointEdge) → edge_in channels row ≡ Some e
    → (e.scid ≡ row.message.short_channel_id) × (e.second ≡ is_second row)
unfolding edge_of
key_of channels row e is = let found = edge_in-some channels row e is in rw (found.2) (refl, refl)

-- two edges of one channel, regardless of the nodes that they lead to, are the same or have opposite directions
pub carrying_directions : (rows : Rows) → IsAscending rows → (edge other : PointEdge) → Among (carrying rows) edge → Among (carrying rows) other
    → edge.scid ≡ other.scid → (edge ≡ other) ⊎ ((edge.from ≡ other.to) × (edge.to ≡ other.from))
carrying_directions rows ascend edge other there also same = by (other_direction edge.second other.second)
  where
    one : IsOfChannel rows.channels edge
    one = All_among (IsOfChannel rows.channels) (carrying rows) edge (carrying_of rows.channels rows.updates) there

    two : IsOfChannel rows.channels other
    two = All_among (IsOfChannel rows.channels) (carrying rows) other (carrying_of rows.channels rows.updates) also

    channel : one.channel ≡ two.channel
    channel = let h : Some one.channel ≡ Some two.channel = sym one.stored ∙ ap (channel_of rows.channels) same ∙ two.stored in cc

    equal : (id : ℕ) (second : Bool) (e : PointEdge) → e.scid ≡ id → e.second ≡ second → to_key id second e ≡ Equal
    equal id second e a b = rw (a, b) (self_equal (direction_cmp (id, second) (id, second)) (direction_total.antisymm (id, second) (id, second)))

    same_edge : edge.second ≡ other.second → edge ≡ other
    same_edge direction =
        let made = Among-filter_map (edge_in rows.channels) rows.updates edge there in
        let key = key_of rows.channels made.0 edge made.2 in
        cut_once (to_key made.0.message.short_channel_id (is_second made.0)) (carrying rows) edge other
        (carrying_cut rows.channels rows.updates made.0 ascend.updates) there also
        (equal made.0.message.short_channel_id (is_second made.0) edge key.0 key.1)
        (equal made.0.message.short_channel_id (is_second made.0) other (sym same ∙ key.0) (sym direction ∙ key.1))

    by : (edge.second ≡ other.second) ⊎ (not edge.second ≡ other.second) → (edge ≡ other) ⊎ ((edge.from ≡ other.to) × (edge.to ≡ other.from))
    by (inl direction) = inl (same_edge direction)
    by (inr turned) = inr (
      one.from ∙ ap (λ (c : ChannelRow). end_of c edge.second) channel
          ∙ ap (end_of two.channel) (sym (twice_not edge.second) ∙ ap not turned) ∙ sym two.to,
      one.to ∙ ap (λ (c : ChannelRow). end_of c (not edge.second)) channel ∙ ap (end_of two.channel) turned ∙ sym two.from,
    )

pub are_directions : (known : Option (List ℕ)) (rows : Rows) → IsAscending rows → AreDirections (edges_of known rows)
are_directions known rows ascend edge other there also same = carrying_directions rows ascend edge other (carried edge there) (carried other also) same
  where
    carried : (e : PointEdge) → Contains (edges_of known rows) e → Among (carrying rows) e
    carried e is = (Among-passed (λ e. takes_payments known rows.nodes e.to) (carrying rows) e (Among-Contains (edges_of known rows) e is)).0

-- node and id identify an edge, if two edges of one id are the same or have opposite directions
pub directions_are_keyed : (edges : List PointEdge) → AreDirections edges → AreKeyed edges
directions_are_keyed edges directions edge other there also from id apart = by (directions edge other there also id)
  where
    by : (edge ≡ other) ⊎ ((edge.from ≡ other.to) × (edge.to ≡ other.from)) → edge ≡ other
    by (inl same) = same
    by (inr back) = absurd (apart (from ∙ sym back.1))

pub are_keyed : (known : Option (List ℕ)) (rows : Rows) → IsAscending rows → AreKeyed (edges_of known rows)
are_keyed known rows ascend = directions_are_keyed (edges_of known rows) (are_directions known rows ascend)
