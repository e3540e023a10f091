-- The nodes that lose channels by a ban.
use Rattle.std.proofs.Common.{◌≡◌, ℕ, ◌+◌, ◌<◌, eqb, Bool, true, false, not, ◌||◌, List, [], ◌∷◌, length, map}
use Rattle.std.proofs.Common.{take, get_or, zero, suc, refl, sym, ap, ◌∙◌, Option, Some, None, arith, true≢false, inl, inr}
use Rattle.std.specs.Prelude.{if◌then◌else◌}
use Rattle.std.specs.Option.{option_map_or}
use Rattle.std.specs.List.{AllByRecursion, filter, list_any}
use Rattle.std.specs.List.Sorted.{IsStrictlySortedBy}
use Rattle.std.specs.declared.cmp.Ordering.TheVariants.{Less}
use Rattle.std.specs.Ordering.{nat_cmp}
use Rattle.std.proofs.lemmas.Grind.{take_at_read}
use Rattle.std.proofs.lemmas.Bool.{cases_Bool}
use Rattle.std.proofs.lemmas.Bool.Decides.{nat_tests}
use Rattle.std.proofs.lemmas.List.Folds.{list_any-append}
use Rattle.std.proofs.Math.Bool.{or_comm}
use Rattle.indexmap.specs.IndexSet.{insert_key}
use Rattle.lgm_wire.specs.declared.point.Point.{Point}
use Rattle.lgm_check.specs.declared.row.ChannelRow.{ChannelRow}
use Rattle.lgm_check.specs.declared.row.NodeRow.{NodeRow}
use Rattle.lgm_check.specs.declared.row.BanRow.{BanRow}
use Rattle.lgm_store.specs.Rows.{Rows, by_id, by_point, put, is_point, channel_of, ends_at, ends_channel, is_banned, ends_banned}
use Rattle.lgm_store.specs.Reading.{ids_at}
use Rattle.lgm_store.specs.History.{banning, allowed_channels, with_banned}
use Rattle.lgm_store.specs.Laws.{IsLawful}
use Rattle.lgm_store.specs.Keys.{id_of}
use Rattle.lgm_store.proofs.ListLaws.{All-append, All-filter, All-to, any-kept, filter-all, filter-swap, find-kept}
use Rattle.lgm_store.proofs.Points.{same_point, is_point-self}
use Rattle.lgm_store.proofs.Bans.{ends_banned-put}
use Rattle.lgm_graph.specs.declared.nodes.Nodes.{Nodes}
use Rattle.lgm_graph.specs.Known.{allows}
use Rattle.lgm_graph.specs.Edges.{PointEdge, end_of, carrying, takes_payments}
use Rattle.lgm_graph.specs.Graph.{GraphNode, IsGraphOf, IsJoined, edges_with, node_with, numbered_in}
use Rattle.lgm_graph.specs.inner.Sound.{graph_in, AreNodes, is_allowed, is_among, looked_at, HasEnds}
use Rattle.lgm_graph.proofs.Numbers.{found_holds}
use Rattle.lgm_graph.proofs.CarriedEdgeLaws.{IsOfChannel, carrying_of}
use Rattle.lgm_graph.proofs.ListedEdgeLaws.{passing}
use Rattle.lgm_graph.proofs.ChangeLaws.{all_alike, node_is}
use Rattle.lgm_graph.proofs.BannedEdgeLaws.{carrying_banned, edges_banned, keep}

-- ---- points among others

among_more : (points : List Point) (p q : Point) → is_among points q ≡ true → is_among (insert_key is_point points p) q ≡ true
among_more points p q among = elim (cases_Bool (list_any (is_point p) points)) [
  | inl is ↦ rw is among
  | inr is ↦ rw is (list_any-append (λ other. is_point other q) points (p ∷ []) ∙ rw among refl)
]

among_own : (points : List Point) (p : Point) → is_among (insert_key is_point points p) p ≡ true
among_own points p = elim (cases_Bool (list_any (is_point p) points)) [
  | inl is ↦ rw is (there points is)
  | inr is ↦ rw is (list_any-append (λ other. is_point other p) points (p ∷ []) ∙ rw (is_point-self p) (last (is_among points p)))
]
  where
    last : (a : Bool) → (a || true) ≡ true
    last a = grind arith

    there : (qs : List Point) → list_any (is_point p) qs ≡ true → is_among qs p ≡ true
    there [] any = absurd cc
    there (q ∷ qs) any = elim (cases_Bool (is_point p q)) [
      | inl is ↦ rw (ap (λ (x : Point). is_point x p) (sym (same_point p q is)) ∙ is_point-self p) refl
      | inr is ↦ rw (there qs (rw is at any)) (last (is_point q p))
    ]

-- a channel's two nodes are added
abbrev pub with_ends : List Point → ChannelRow → List Point
with_ends points channel = insert_key is_point (insert_key is_point points channel.message.node_id_1) channel.message.node_id_2

pub kept_more : (points : List Point) (channel : ChannelRow) (q : Point) → is_among points q ≡ true → is_among (with_ends points channel) q ≡ true
kept_more points channel q among = among_more _ channel.message.node_id_2 q (among_more points channel.message.node_id_1 q among)

has_own : (points : List Point) (channel : ChannelRow) → HasEnds (with_ends points channel) channel
has_own points channel = (
  among_more _ channel.message.node_id_2 channel.message.node_id_1
      (among_own points channel.message.node_id_1),
  among_own _ channel.message.node_id_2,
)

pub has_kept : (old new : List Point) (channel : ChannelRow) → ((q : Point) → is_among old q ≡ true
    → is_among new q ≡ true) → HasEnds old channel → HasEnds new channel
has_kept old new channel kept has = (kept channel.message.node_id_1 has.0, kept channel.message.node_id_2 has.1)

-- ---- the channels at a node, one after the other

-- each row is found by its id
each_found : (rows : List ChannelRow) → IsStrictlySortedBy by_id rows → AllByRecursion (λ row. channel_of rows (id_of row) ≡ Some row) rows
unfolding IsStrictlySortedBy
each_found [] sorted = tt
each_found (x ∷ xs) sorted = (rw (same (id_of x)) refl, along xs sorted.0 (each_found xs sorted.1))
  where
    same : (a : ℕ) → eqb a a ≡ true
    same a = grind (arith, nat_tests)

    apart : (a b : ChannelRow) → by_id a b ≡ Less → eqb (id_of a) (id_of b) ≡ false
    apart a b less = let is : nat_cmp (id_of a) (id_of b) ≡ Less = less in grind (arith, nat_tests)

    along : (ys : List ChannelRow) → AllByRecursion (λ y. by_id x y ≡ Less) ys
        → AllByRecursion (λ row. channel_of xs (id_of row) ≡ Some row) ys
        → AllByRecursion (λ row. channel_of (x ∷ xs) (id_of row) ≡ Some row) ys
    along [] above found = tt
    along (y ∷ ys) above found = (rw (apart x y above.0) found.0, along ys above.1 found.1)

-- an element of a list
pub at_place : {X : Type 0} (P : X → Type 0) (xs : List X) (i : ℕ) (d : X) → i < length xs → AllByRecursion P xs → P (get_or xs i d)
at_place P [] i d lt all = absurd (omega (arith, lt))
at_place P (x ∷ xs) zero d lt all = all.0
at_place P (x ∷ xs) (suc i) d lt all = at_place P xs i d (omega (arith, lt)) all.1

get_id : (rows : List ChannelRow) (i : ℕ) (id : ℕ) (d : ChannelRow) → i < length (map id_of rows)
    → get_or (map id_of rows) i id ≡ id_of (get_or rows i d)
get_id [] i id d lt = absurd (omega (arith, lt))
get_id (x ∷ xs) zero id d lt = refl
get_id (x ∷ xs) (suc i) id d lt = get_id xs i id d (omega (arith, lt))

pub long_ids : (rows : List ChannelRow) → length (map id_of rows) ≡ length rows
long_ids [] = refl
long_ids (x ∷ xs) = rw (long_ids xs) refl

-- the nodes of one more channel
pub ends_next : (rows : List ChannelRow) (node : Point) (ids : List ℕ) (i : ℕ) (id : ℕ) (channel : ChannelRow)
    (old new : List Point) → IsStrictlySortedBy by_id rows
    → ids ≡ ids_at rows node → i < length ids → id ≡ get_or ids i id → channel_of rows id ≡ Some channel → new ≡ with_ends old channel
    → AllByRecursion (HasEnds old) (take i (filter (ends_at node) rows)) → AllByRecursion (HasEnds new) (take (i + 1) (filter (ends_at node) rows))
ends_next rows node ids i id channel old new sorted ids_are lt is stored new_is done =
    let there = filter (ends_at node) rows in
    let within : i < length (map id_of there) = rw ids_are at lt in
    let short : i < length there = let long = long_ids there in omega (arith, within, long) in
    let found =
    at_place (λ row. channel_of rows (id_of row) ≡ Some row) there i channel short
    (All-filter _ (ends_at node) rows (each_found rows sorted)) in
    let id_is : id ≡ id_of (get_or there i channel) = is ∙ ap (λ l. get_or l i id) ids_are ∙ get_id there i id channel within in
    let one : Some (get_or there i channel) ≡ Some channel = sym found ∙ ap (channel_of rows) (sym id_is) ∙ stored in
    let own : get_or there i channel ≡ channel = cc in
    rw ((take_at_read there i channel short).1, own, new_is)
    (All-append (HasEnds (with_ends old channel)) (take i there) (channel ∷ [])
    (All-to (HasEnds old) (HasEnds (with_ends old channel)) (take i there) (λ row has.
    has_kept old (with_ends old channel) row (kept_more old channel) has) done)
    (has_own old channel, tt))

-- the channel of each of the ids is in the map
pub ids_stored : (rows : List ChannelRow) (node : Point) (ids : List ℕ) (i : ℕ) (id : ℕ)
    → IsStrictlySortedBy by_id rows → ids ≡ ids_at rows node → i < length ids → id ≡ get_or ids i id
    → channel_of rows id ≡ None → ⊥
ids_stored rows node ids i id sorted ids_are lt is none =
    let there = filter (ends_at node) rows in
    let within : i < length (map id_of there) = rw ids_are at lt in
    by there within (All-filter _ (ends_at node) rows (each_found rows sorted)) (is ∙ ap (λ l. get_or l i id) ids_are)
  where
    by : (there : List ChannelRow) → i < length (map id_of there) → AllByRecursion
        (λ row. channel_of rows (id_of row) ≡ Some row) there → id ≡ get_or (map id_of there) i id → ⊥
    by [] within found is = omega (arith, within)
    by (x ∷ xs) within found is =
        let short : i < length (x ∷ xs) = let long = long_ids (x ∷ xs) in omega (arith, within, long) in
        let stored = at_place (λ row. channel_of rows (id_of row) ≡ Some row) (x ∷ xs) i x short found in
        let never : None ≡ Some (get_or (x ∷ xs) i x) = sym none ∙ ap (channel_of rows) (is ∙ get_id (x ∷ xs) i id x within) ∙ stored in
        absurd cc

-- those that pass a test, among all
pub ends_all : (rows : List ChannelRow) (node : Point) (points : List Point) → AllByRecursion (HasEnds points)
    (filter (ends_at node) rows) → AllByRecursion (λ row. ends_at node row ≡ true → HasEnds points row) rows
ends_all [] node points all = tt
ends_all (x ∷ xs) node points all = elim (cases_Bool (ends_at node x)) [
  | inl is ↦
      let here : AllByRecursion (HasEnds points) (x ∷ filter (ends_at node) xs) = rw is at all in
      ((λ e. here.0), ends_all xs node points here.1)
  | inr is ↦ ((λ e. absurd (true≢false (sym e ∙ is))), ends_all xs node points (rw is at all))
]

-- ---- the four points of a ban

pub parts_all : (rows : Rows) (ban : BanRow) (one two three four : List Point) → IsLawful rows
    → AllByRecursion (λ row. ends_at ban.held1 row ≡ true → HasEnds one row) rows.channels
    → AllByRecursion (λ row. ends_at ban.held2 row ≡ true → HasEnds two row) rows.channels
    → AllByRecursion (λ row. ends_at ban.new1 row ≡ true → HasEnds three row) rows.channels
    → AllByRecursion (λ row. ends_at ban.new2 row ≡ true → HasEnds four row) rows.channels
    → ((q : Point) → is_among one q ≡ true → is_among two q ≡ true) → ((q : Point) → is_among two q ≡ true
    → is_among three q ≡ true) → ((q : Point) → is_among three q ≡ true → is_among four q ≡ true)
    → AllByRecursion (λ row. ends_banned (with_banned rows.banned ban) row ≡ true → HasEnds four row) rows.channels
parts_all rows ban one two three four lawful a b c d kept2 kept3 kept4 = along rows.channels lawful.allowed a b c d
  where
    at : (points : List Point) (p : Point) (row : ChannelRow)
        → (ends_banned points row ≡ true → HasEnds four row) → (ends_at p row ≡ true → HasEnds four row)
        → ends_banned (put by_point points p) row ≡ true → HasEnds four row
    at points p row before here banned = elim (cases_Bool (ends_banned points row)) [
      | inl is ↦ before is
      | inr is ↦ here (rw (ends_banned-put points p row, is) at banned)
    ]

    along : (rs : List ChannelRow) → AllByRecursion (λ row. ends_banned rows.banned row ≡ false) rs
        → AllByRecursion (λ row. ends_at ban.held1 row ≡ true → HasEnds one row) rs
        → AllByRecursion (λ row. ends_at ban.held2 row ≡ true → HasEnds two row) rs
        → AllByRecursion (λ row. ends_at ban.new1 row ≡ true → HasEnds three row) rs
        → AllByRecursion (λ row. ends_at ban.new2 row ≡ true → HasEnds four row) rs
        → AllByRecursion (λ row. ends_banned (with_banned rows.banned ban) row ≡ true → HasEnds four row) rs
    along [] allowed a b c d = tt
    along (x ∷ xs) allowed a b c d = (
      at _ ban.new2 x (at _ ban.new1 x (at _ ban.held2 x (at rows.banned ban.held1 x (λ e. absurd (true≢false (sym e ∙ allowed.0)))
          (λ e. has_kept three four x kept4 (has_kept two three x kept3 (has_kept one two x kept2 (a.0 e)))))
          (λ e. has_kept three four x kept4 (has_kept two three x kept3 (b.0 e)))) (λ e. has_kept three four x kept4 (c.0 e))) d.0,
      along xs allowed.1 a.1 b.1 c.1 d.1,
    )

-- ---- the nodes that lose channels are changed

-- what is stored at a point, if it is changed at some
abbrev pub changed_among : {Y : Type 0} → (Point → Y → Y) → List Point → (Point → Y) → Point → Y
changed_among change points before q = if is_among points q then change q (before q) else before q

-- at one more
pub among_next : {Y : Type 0} (change : Point → Y → Y) → ((q : Point) (y : Y)
    → change q (change q y) ≡ change q y) → (before : Point → Y) (points : List Point) (i : ℕ) (p d : Point)
    → i < length points → p ≡ get_or points i d → (q : Point)
    → (if is_point p q then change q (changed_among change (take i points) before q)
    else changed_among change (take i points) before q) ≡ changed_among change (take (i + 1) points) before q
among_next {Y} change twice before points i p d lt is q = elim (cases_Bool (is_among (take i points) q)) [
  | inl e ↦ elim (cases_Bool (is_point p q)) [ inl f ↦ rw (next, e, f) (twice q (before q)) | inr f ↦ rw (next, e, f) refl ]
  | inr e ↦ elim (cases_Bool (is_point p q)) [ inl f ↦ rw (next, e, f) refl | inr f ↦ rw (next, e, f) refl ]
]
  where
    next : is_among (take (i + 1) points) q ≡ (is_among (take i points) q || (is_point p q || false))
    next =
        ap (λ ps. is_among ps q) ((take_at_read points i d lt).1)
        ∙ list_any-append (λ other. is_point other q) (take i points) (get_or points i d ∷ [])
        ∙ ap (λ (x : Point). is_among (take i points) q || (is_point x q || false)) (sym is)

pub next_at : {Y : Type 0} (change : Point → Y → Y) → ((q : Point) (y : Y) → change q (change q y)
    ≡ change q y) → (before : Point → Y) (points : List Point) (i : ℕ) (d : Point) → i < length points
    → (keys : List Point) (values : List Y) → values ≡ map (λ q. if is_point (get_or points i d) q then change
    q (changed_among change (take i points) before q) else changed_among change (take i points) before q) keys
    → values ≡ map (changed_among change (take (i + 1) points) before) keys
next_at {Y} change twice before points i d lt keys values is =
    is ∙ ap (λ (f : Point → Y). map f keys) (λ j q.
    among_next change twice before points i (get_or points i d) d lt refl q j)

-- ---- the view after the nodes that lose channels are changed

module _ (known : Option (List ℕ)) (rows : Rows) (banned : List Point) (lawful : IsLawful rows)
    (ends : List Point)
    (affected_nodes : AllByRecursion (λ row. ends_banned banned row ≡ true → HasEnds ends row) rows.channels) where
  -- an edge of a banned node has both of its ends among the points
  edge_ends : (e : PointEdge) → IsOfChannel rows.channels e → (is_banned banned e.from || is_banned banned e.to)
      ≡ true → (is_among ends e.from ≡ true) × (is_among ends e.to ≡ true)
  edge_ends e of is =
      let has : ends_banned banned of.channel ≡ true → HasEnds ends of.channel =
      found_holds (λ row. ends_banned banned row ≡ true → HasEnds ends row)
      (λ row. eqb row.message.short_channel_id e.scid) rows.channels of.channel affected_nodes of.stored in
      let both = has (by e.second of.channel (rw (of.from, of.to) at is)) in
      (rw of.from (end_among e.second of.channel both), rw of.to (end_among (not e.second) of.channel both))
    where
      by : (b : Bool) (channel : ChannelRow) → (is_banned banned (end_of channel b)
          || is_banned banned (end_of channel (not b))) ≡ true → ends_banned banned channel ≡ true
      by true channel is = or_comm (is_banned banned channel.message.node_id_1) (is_banned banned channel.message.node_id_2) ∙ is
      by false channel is = is

      end_among : (b : Bool) (channel : ChannelRow) → HasEnds ends channel → is_among ends (end_of channel b) ≡ true
      end_among true channel has = has.1
      end_among false channel has = has.0

  -- elsewhere no edge is removed
  stays_at : (end : PointEdge → Point) → ((e : PointEdge) → (is_among ends e.from ≡ true) × (is_among ends e.to ≡ true)
      → is_among ends (end e) ≡ true) → (q : Point) → is_among ends q ≡ false
      → filter (λ e. is_point q (end e)) (filter (λ e. not (is_banned banned e.from || is_banned banned e.to))
      (carrying rows)) ≡ filter (λ e. is_point q (end e)) (carrying rows)
  stays_at end which q away =
      filter-swap (λ e. is_point q (end e)) (λ e. not (is_banned banned e.from || is_banned banned e.to)) (carrying rows)
      ∙ filter-all (λ e. not (is_banned banned e.from || is_banned banned e.to)) (filter (λ e. is_point q (end e)) (carrying rows))
      (All-to _ _ (filter (λ e. is_point q (end e)) (carrying rows)) each (passing (IsOfChannel rows.channels)
      (λ e. is_point q (end e)) (carrying rows) (carrying_of rows.channels rows.updates)))
    where
      each : (e : PointEdge) → IsOfChannel rows.channels e × (is_point q (end e) ≡ true) → not (is_banned banned e.from || is_banned banned e.to) ≡ true
      each e both = elim (cases_Bool (is_banned banned e.from || is_banned banned e.to)) [
        | inl is ↦ absurd (true≢false (sym (which e (edge_ends e both.0 is)) ∙ ap (is_among ends) (sym (same_point q (end e) both.1)) ∙ away))
        | inr is ↦ rw is refl
      ]

  -- ---- whether nodes take payments

  still_ended : (q : Point) → is_among ends q ≡ false → ends_channel (allowed_channels banned rows.channels) q ≡ ends_channel rows.channels q
  still_ended q away = any-kept (ends_at q) (λ c. not (ends_banned banned c)) rows.channels (All-to _ _ rows.channels each affected_nodes)
    where
      each : (c : ChannelRow) → (ends_banned banned c ≡ true → HasEnds ends c) → ends_at q c ≡ true → not (ends_banned banned c) ≡ true
      each c has at = elim (cases_Bool (ends_banned banned c)) [
        | inl is ↦ absurd (true≢false (sym (never (has is)) ∙ away))
        | inr is ↦ rw is refl
      ]
        where
          never : HasEnds ends c → is_among ends q ≡ true
          never both = elim (cases_Bool (is_point c.message.node_id_1 q)) [
            | inl is ↦ ap (is_among ends) (sym (same_point c.message.node_id_1 q is)) ∙ both.0
            | inr is ↦ ap (is_among ends) (sym (same_point c.message.node_id_2 q (rw is at at))) ∙ both.1
          ]

  other_node : (q : Point) → is_among ends q ≡ false → takes_payments known (banning rows banned).nodes q ≡ takes_payments known rows.nodes q
  other_node q away =
      ap taken (find-kept (λ row. is_point row.message.node_id q) (λ row. ends_channel (allowed_channels
      banned rows.channels) row.message.node_id) rows.nodes (All-to _ _ rows.nodes each lawful.ended))
    where
      taken : Option NodeRow → Bool
      taken = λ o. option_map_or (λ (row : NodeRow). allows known row.message.features) o true

      each : (row : NodeRow) → ends_channel rows.channels row.message.node_id ≡ true
          → is_point row.message.node_id q ≡ true
          → ends_channel (allowed_channels banned rows.channels) row.message.node_id ≡ true
      each row ended is =
          let same : row.message.node_id ≡ q = same_point row.message.node_id q is in
          ap (ends_channel (allowed_channels banned rows.channels)) same ∙ still_ended q away ∙ ap (ends_channel rows.channels) (sym same) ∙ ended

  -- ---- all of it

  -- what is said of the nodes that lose channels is so of all
  abbrev ban_node : List Point → Point → GraphNode → GraphNode
  ban_node points = looked_at known (banning rows banned).nodes (is_allowed points banned)

  each : (points : List Point) → AllByRecursion (IsJoined points) (carrying rows) → (q : Point)
      → changed_among (ban_node points) ends (node_with (takes_payments known rows.nodes) points (carrying rows)) q
      ≡ node_with (takes_payments known (banning rows banned).nodes) points (carrying (banning rows banned)) q
  each points joined q = by (is_among ends q) refl
    where
      kept : (end : PointEdge → Point) → filter (is_allowed points banned) (edges_with end points (carrying rows) q)
          ≡ edges_with end points (carrying (banning rows banned)) q
      kept end = edges_banned known rows banned lawful end points joined q

      elsewhere : is_among ends q ≡ false → (end : PointEdge → Point)
          → ((e : PointEdge) → (is_among ends e.from ≡ true) × (is_among ends e.to ≡ true) → is_among ends (end e) ≡ true)
          → edges_with end points (carrying rows) q ≡ edges_with end points (carrying (banning rows banned)) q
      elsewhere away end which =
          ap (map (numbered_in points)) (sym (stays_at end which q away)) ∙ ap (λ es. edges_with end points es q) (sym (carrying_banned known rows banned lawful))

      by : (b : Bool) → is_among ends q ≡ b
          → changed_among (ban_node points) ends (node_with (takes_payments known rows.nodes) points (carrying rows)) q
          ≡ node_with (takes_payments known (banning rows banned).nodes) points (carrying (banning rows banned)) q
      by true is = rw is (node_is _ _ refl (kept (λ e. e.to)) (kept (λ e. e.from)))
      by false is = rw is (node_is _ _ (sym (other_node q is)) (elsewhere is (λ e. e.to) (λ e both. both.1)) (elsewhere is (λ e. e.from) (λ e both. both.0)))

  pub node_banned : (after : Rows) → after ≡ banning rows banned → (old new : Nodes)
      → IsGraphOf rows (graph_in known old) → new.points.keys ≡ old.points.keys
      → AreNodes (changed_among (looked_at known after.nodes (is_allowed old.points.keys after.banned)) ends
      (node_with (takes_payments known rows.nodes) old.points.keys (carrying rows))) new
      → IsGraphOf after (graph_in known new)
  node_banned after is old new graph points nodes = record {
    ends = rw (is, points) (All-filter _ (λ c. not (ends_banned banned c)) rows.channels graph.ends);
    shows = record {
      joined =
          rw (is, points, carrying_banned known rows banned lawful)
          (All-filter (IsJoined old.points.keys) (keep known rows banned lawful) (carrying rows) graph.shows.joined);
      nodes_are = nodes ∙ rw (is, points) (all_alike _ _ old.points.keys (each old.points.keys graph.shows.joined));
    };
  }
