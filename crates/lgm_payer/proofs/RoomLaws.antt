-- Nothing is promised twice: a hop of a route takes no more than what is left beside what is under way.
use Rattle.std.proofs.Common.{◌≡◌, ◌⊎◌, inl, inr, ℕ, ◌-◌, ◌*◌, ◌^◌, ◌≤◌, Bool, true, false, ◌&&◌, List, [], ◌∷◌, ◌++◌, Option, Some, None}
use Rattle.std.proofs.Common.{not, zero, suc, true≢false, refl, sym, ap, subst, ◌∙◌, arith, Ok}
use Rattle.std.specs.Prelude.{◌==◌, map, filter, min, if◌then◌else◌}
use Rattle.std.specs.List.{filter_map, cons_option, list_any}
use Rattle.std.specs.Option.{option_and_then, option_map, option_or}
use Rattle.std.proofs.lemmas.Bool.{and_parts, eqb-true, eq-eqb, leb-true}
use Rattle.std.proofs.lemmas.List.Sums.{sum_by-cons}
use Rattle.lgm_wire.specs.declared.point.Point.{Point}
use Rattle.lgm_check.specs.declared.row.ChannelRow.{ChannelRow}
use Rattle.lgm_check.specs.declared.row.UpdateRow.{UpdateRow}
use Rattle.lgm_store.specs.Rows.{Rows, is_point, channel_of}
use Rattle.lgm_store.proofs.Points.{same_point, is_point-self}
use Rattle.lgm_graph.specs.declared.overlay.ExtraEdge.{ExtraEdge}
use Rattle.lgm_graph.specs.declared.overlay.Limit.{Limit}
use Rattle.lgm_graph.specs.declared.route.Hop.{Hop}
use Rattle.lgm_graph.specs.Edges.{PointEdge, edge_on, edge_in, edge_of, can_carry, carrying, takes_payments}
use Rattle.lgm_graph.specs.Overlay.{extra_edge, has_key, is_named, firsts, is_used, at_most, most_of, limited, laid_over, overlaid_edges}
use Rattle.lgm_graph.proofs.Members.{Among, Among-Contains, Among-either, Among-left, Among-passed, Among-mapped, Among-flat}
use Rattle.lgm_route.specs.declared.request.Request.{Request}
use Rattle.lgm_route.specs.declared.limits.RouteLimits.{RouteLimits}
use Rattle.lgm_route.specs.declared.found.Found.{Found}
use Rattle.lgm_route.specs.Routes.{owed, hops_of, IsRest}
use Rattle.lgm_route.specs.Preferred.{IsSomeRoute, penalty_at, no_preferences}
use Rattle.lgm_odds.specs.Cut.{Capacities}
use Rattle.lgm_payer.specs.Payments.{PaymentState}
use Rattle.lgm_odds.specs.Carried.{over, carried_over}
use Rattle.lgm_odds.specs.RouteOdds.{named}
use Rattle.lgm_payer.specs.Overlays.{spared, extra_of, capacity_limit, capacity_limits, listed, limits_left, all_silenced, overlay_of, HasRoomIn, HasRoom, HaveRoom}
use Rattle.lgm_payer.specs.Searches.{route_limits, request_of, IsAnswerWithin, IsFoundFor}
use Rattle.lgm_payer.proofs.NamedLaws.{first_found, laid_found, none_found}
use Rattle.lgm_payer.proofs.RouteLaws.{owed_more}

-- ---- limits

-- a limit leaves no more than there was
at_most_within : (id : ℕ) (from : Point) (most : ℕ) (limit : Limit) → at_most id from most limit ≤ most
at_most_within id from most limit = by (limit.scid == id && is_point from limit.from)
  where
    by : (b : Bool) → (if b then min most limit.most else most) ≤ most
    by true = omega arith
    by false = omega arith

most_within : (limits : List Limit) (id : ℕ) (from : Point) (most : ℕ) → most_of limits id from most ≤ most
most_within [] id from most = omega arith
most_within (limit ∷ limits) id from most =
    let rest = most_within limits id from (at_most id from most limit) in
    let here = at_most_within id from most limit in
    omega arith

-- and no more than itself, for its key
at_most_limit : (id : ℕ) (from : Point) (most : ℕ) (limit : Limit) → (limit.scid == id && is_point from limit.from) ≡ true
    → at_most id from most limit ≤ limit.most
at_most_limit id from most limit is = rw is (omega arith)

most_limit : (limits : List Limit) (id : ℕ) (from : Point) (most : ℕ) (limit : Limit) → Among limits limit
    → (limit.scid == id && is_point from limit.from) ≡ true → most_of limits id from most ≤ limit.most
most_limit [] id from most limit none is = absurd none
most_limit (first ∷ limits) id from most limit (inl same) is =
    let own : (first.scid == id && is_point from first.from) ≡ true =
    ap (λ (l : Limit). l.scid == id && is_point from l.from) same ∙ is in
    let here = at_most_limit id from most first own in
    let rest = most_within limits id from (at_most id from most first) in
    let own_most : first.most ≡ limit.most = ap (λ (l : Limit). l.most) same in
    omega arith
most_limit (first ∷ limits) id from most limit (inr more) is = most_limit limits id from (at_most id from most first) limit more is

-- ---- edges

-- what a filter_map gives comes from an element
module _ {X Y : Type 0} (f : X → Option Y) where
  from_element : (xs : List X) (y : Y) → Among (filter_map f xs) y → (x : X) × Among xs x × (f x ≡ Some y)
  from_element [] y none = absurd none
  from_element (x ∷ xs) y there = by (from_element xs y) (f x) refl there
    where
      by : (Among (filter_map f xs) y → (z : X) × Among xs z × (f z ≡ Some y)) → (o : Option Y) → f x ≡ o
          → Among (cons_option (f x) (filter_map f xs)) y → (z : X) × Among (x ∷ xs) z × (f z ≡ Some y)
      by others None is there = let rest = others (rw is at there) in (rest.0, inr rest.1, rest.2)
      by others (Some first) is there = which (rw is at there)
        where
          which : (first ≡ y) ⊎ Among (filter_map f xs) y → (z : X) × Among (x ∷ xs) z × (f z ≡ Some y)
          which (inl same) = (x, inl refl, is ∙ ap (λ v. Some v) same)
          which (inr more) = let rest = others more in (rest.0, inr rest.1, rest.2)

-- the edge of an update has no greater maximum than the capacity of its channel
edge_on_fits : (channel : ChannelRow) (row : UpdateRow) (edge : PointEdge) → edge_on channel row ≡ Some edge
    → (edge.scid ≡ row.message.short_channel_id) × (edge.max ≤ channel.sat * 1000)
unfolding edge_of
edge_on_fits channel row edge is = by (can_carry channel row) refl is
  where
    by : (b : Bool) → can_carry channel row ≡ b → (if b then Some (edge_of channel row) else None) ≡ Some edge
        → (edge.scid ≡ row.message.short_channel_id) × (edge.max ≤ channel.sat * 1000)
    by true can is =
        let same : edge_of channel row ≡ edge = cc in
        let few : row.message.htlc_maximum_msat ≤ channel.sat * 1000 = leb-true _ _ (and_parts _ _ (and_parts _ _ can).0).1 in (
          sym (ap (λ (e : PointEdge). e.scid) same),
          subst (λ (e : PointEdge). e.max ≤ channel.sat * 1000) same few,
        )
    by false can is = cc

-- and its channel is in the map
record HasCapacity (rows : Rows) (edge : PointEdge) : Type 0 where
  channel : ChannelRow
  there : channel_of rows.channels edge.scid ≡ Some channel
  fits : edge.max ≤ channel.sat * 1000

edge_in_fits : (rows : Rows) (row : UpdateRow) (edge : PointEdge) → edge_in rows.channels row ≡ Some edge → HasCapacity rows edge
edge_in_fits rows row edge is = by (channel_of rows.channels row.message.short_channel_id) refl is
  where
    by : (o : Option ChannelRow) → channel_of rows.channels row.message.short_channel_id ≡ o
        → option_and_then (λ channel. edge_on channel row) o ≡ Some edge → HasCapacity rows edge
    by None found is = cc
    by (Some channel) found is =
        let own = edge_on_fits channel row edge is in
        record { channel = channel; there = ap (channel_of rows.channels) own.0 ∙ found; fits = own.1 }

carrying_fits : (rows : Rows) (edge : PointEdge) → Among (carrying rows) edge → HasCapacity rows edge
carrying_fits rows edge there =
    let row = from_element (edge_in rows.channels) rows.updates edge there in
    edge_in_fits rows row.0 edge row.2

-- ---- what is carried

-- where something is carried over an edge, one of the hops is over it
busy_hop : (busy : List Hop) (scid : ℕ) (from : Point) → 1 ≤ carried_over busy scid from
    → (hop : Hop) × Among busy hop × (hop.scid ≡ scid) × (hop.from ≡ from)
busy_hop [] scid from some = absurd (omega arith)
busy_hop (hop ∷ busy) scid from some = by (hop.scid == scid && is_point hop.from from) refl (busy_hop busy scid from)
  where
    by : (b : Bool) → (hop.scid == scid && is_point hop.from from) ≡ b
        → (1 ≤ carried_over busy scid from → (other : Hop) × Among busy other × (other.scid ≡ scid) × (other.from ≡ from))
        → (other : Hop) × Among (hop ∷ busy) other × (other.scid ≡ scid) × (other.from ≡ from)
    by true is others =
        let both = and_parts _ _ is in
        (hop, inl refl, eqb-true hop.scid scid both.0, same_point hop.from from both.1)
    by false is others =
        let none : over scid from hop ≡ 0 = rw is refl in
        let sum = sum_by-cons (over scid from) hop busy in
        let rest = others (omega arith) in
        (rest.0, inr rest.1, rest.2, rest.3)

-- the limit that its channel's capacity leaves is among the limits, where the hop isn't the payer's
module _ (rows : Rows) (payer : Point) (busy : List Hop) where
  left_of : ChannelRow → ℕ → Point → ℕ
  left_of channel scid from = min (2 ^ 64 - 1) (channel.sat * 1000) - carried_over busy scid from

  capacity_among : (channel : ChannelRow) (hop : Hop) → Among busy hop → is_point hop.from payer ≡ false
      → channel_of rows.channels hop.scid ≡ Some channel
      → (limit : Limit) × Among (capacity_limits rows payer busy) limit × (limit.scid ≡ hop.scid) × (limit.from ≡ hop.from)
      × (limit.most ≡ left_of channel hop.scid hop.from)
  unfolding left_of
  capacity_among channel hop there other found =
      let limit : Limit = record { scid = hop.scid; from = hop.from; most = left_of channel hop.scid hop.from } in
      let own : listed (capacity_limit rows payer busy hop) ≡ limit ∷ [] = rw (other, found) refl in
      (limit, Among-flat (λ hop. listed (capacity_limit rows payer busy hop)) busy hop limit there (rw own (inl refl)), refl, refl, refl)

-- ---- room

-- an edge that is laid with what is left of it beside hops has room for what it carries at most
spared_room : (extra : List ExtraEdge) (busy : List Hop) (own : ExtraEdge) (laid : PointEdge) (amount : ℕ)
    → named extra laid.scid laid.from ≡ Some own → extra_edge (spared busy own) ≡ laid → 1 ≤ amount → amount ≤ laid.max
    → HasRoomIn extra busy laid.scid laid.from amount
spared_room extra busy own laid amount there is some fits =
    let scid : own.scid ≡ laid.scid = ap (λ (e : PointEdge). e.scid) is in
    let from : own.from ≡ laid.from = ap (λ (e : PointEdge). e.from) is in
    let max : own.max - carried_over busy own.scid own.from ≡ laid.max = ap (λ (e : PointEdge). e.max) is in
    let alike : carried_over busy own.scid own.from ≡ carried_over busy laid.scid laid.from =
    ap (λ n. carried_over busy n own.from) scid ∙ ap (λ (p : Point). carried_over busy laid.scid p) from in
    (own, there, omega arith)

-- what is some is one value, and no value is none
some_same : {X : Type 0} (x y : X) → Some x ≡ Some y → x ≡ y
some_same x y is = cc

none_some : {X : Type 0} (x : X) → None ≡ Some x → ⊥
none_some x is = cc

not_true : (b : Bool) → not b ≡ true → b ≡ false
not_true true is = absurd (true≢false (sym is))
not_true false is = refl

-- of a payment
module _ (rows : Rows) (payment : PaymentState) (own : List ExtraEdge) (since busy : List Hop) where
  -- over an edge beside the map, for what it carries at most
  extra_room : (limits : List Limit) (edge : PointEdge) (amount : ℕ)
      → Among (firsts (map extra_edge (extra_of payment own since busy))) edge → 1 ≤ amount
      → amount ≤ most_of limits edge.scid edge.from edge.max → HasRoom rows own payment.hints since busy edge.scid edge.from amount
  extra_room limits edge amount there some fits =
      let within = most_within limits edge.scid edge.from edge.max in
      by (named own edge.scid edge.from) (named payment.hints edge.scid edge.from) refl refl (omega arith)
      (sym (laid_found payment own since busy edge.scid edge.from)
      ∙ first_found (map extra_edge (extra_of payment own since busy)) edge there)
    where
      by : (first second : Option ExtraEdge) → named own edge.scid edge.from ≡ first → named payment.hints edge.scid edge.from ≡ second
          → amount ≤ edge.max
          → option_map extra_edge (option_or (option_map (spared since) (named own edge.scid edge.from))
          (option_map (spared busy) (named payment.hints edge.scid edge.from))) ≡ Some edge
          → HasRoom rows own payment.hints since busy edge.scid edge.from amount
      by (Some channel) second is other fits found =
          inl (spared_room own since channel edge amount is (some_same (extra_edge (spared since channel)) edge (rw is at found)) some fits)
      by None (Some hint) is other fits found =
          inr (inl (
            is,
            spared_room payment.hints busy hint edge amount other
                (some_same (extra_edge (spared busy hint)) edge (rw (is, other) at found)) some fits,
          ))
      by None None is other fits found = absurd (none_some edge (rw (is, other) at found))

  -- an edge that none of those beside the map replaces has no name of theirs
  unnamed : (base : PointEdge) → not (is_named (map extra_edge (extra_of payment own since busy)) base) ≡ true
      → (named own base.scid base.from ≡ None) × (named payment.hints base.scid base.from ≡ None)
  unnamed base is =
      by (named own base.scid base.from) (named payment.hints base.scid base.from) refl refl
      (sym (laid_found payment own since busy base.scid base.from)
      ∙ none_found (has_key base.scid base.from) (map extra_edge (extra_of payment own since busy))
      (not_true (is_named (map extra_edge (extra_of payment own since busy)) base) is))
    where
      by : (first second : Option ExtraEdge) → named own base.scid base.from ≡ first → named payment.hints base.scid base.from ≡ second
          → option_map extra_edge (option_or (option_map (spared since) (named own base.scid base.from))
          (option_map (spared busy) (named payment.hints base.scid base.from))) ≡ None
          → (named own base.scid base.from ≡ None) × (named payment.hints base.scid base.from ≡ None)
      by (Some channel) second is other found = absurd (none_some (extra_edge (spared since channel)) (sym (rw is at found)))
      by None (Some hint) is other found = absurd (none_some (extra_edge (spared busy hint)) (sym (rw (is, other) at found)))
      by None None is other found = (is, other)

  -- over an edge of the map, for its channel's capacity
  public_room : (others : List Limit) (edge : PointEdge) (amount : ℕ) → Among (carrying rows) edge
      → is_point edge.from payment.payer ≡ false
      → (named own edge.scid edge.from ≡ None) × (named payment.hints edge.scid edge.from ≡ None) → 1 ≤ amount
      → amount ≤ most_of (capacity_limits rows payment.payer busy ++ others) edge.scid edge.from edge.max
      → HasRoom rows own payment.hints since busy edge.scid edge.from amount
  unfolding left_of
  public_room others edge amount there other bare some fits = by (carried_over busy edge.scid edge.from) refl
    where
      capacity : HasCapacity rows edge
      capacity = carrying_fits rows edge there

      within : most_of (capacity_limits rows payment.payer busy ++ others) edge.scid edge.from edge.max ≤ edge.max
      within = most_within (capacity_limits rows payment.payer busy ++ others) edge.scid edge.from edge.max

      by : (carried : ℕ) → carried_over busy edge.scid edge.from ≡ carried
          → HasRoom rows own payment.hints since busy edge.scid edge.from amount
      by zero is =
          let all = capacity.fits in
          let less = within in
          inr (inr (bare.0, bare.1, (capacity.channel, capacity.there, omega arith)))
      by (suc more) is =
          let hop = busy_hop busy edge.scid edge.from (omega arith) in
          let found : channel_of rows.channels hop.0.scid ≡ Some capacity.channel = ap (channel_of rows.channels) hop.2 ∙ capacity.there in
          let elsewhere : is_point hop.0.from payment.payer ≡ false = ap (λ (p : Point). is_point p payment.payer) hop.3 ∙ other in
          let limit = capacity_among rows payment.payer busy capacity.channel hop.0 hop.1 elsewhere found in
          let scid : limit.0.scid ≡ edge.scid = limit.2 ∙ hop.2 in
          let from : limit.0.from ≡ edge.from = limit.3 ∙ hop.3 in
          let key : (limit.0.scid == edge.scid && is_point edge.from limit.0.from) ≡ true =
          rw (scid, from, is_point-self edge.from, eq-eqb edge.scid edge.scid refl) refl in
          let below = most_limit (capacity_limits rows payment.payer busy ++ others) edge.scid edge.from edge.max limit.0
          (Among-left (capacity_limits rows payment.payer busy) others limit.0 limit.1) key in
          let alike : carried_over busy hop.0.scid hop.0.from ≡ carried_over busy edge.scid edge.from =
          ap (λ n. carried_over busy n hop.0.from) hop.2 ∙ ap (λ (p : Point). carried_over busy edge.scid p) hop.3 in
          let leaves = limit.4 in
          inr (inr (bare.0, bare.1, (capacity.channel, capacity.there, omega arith)))

  -- an edge that is used isn't the payer's
  others_alone : (edge : PointEdge) (silent : List Point) → not (list_any (is_point edge.from) (payment.payer ∷ silent)) ≡ true
      → is_point edge.from payment.payer ≡ false
  others_alone edge silent is = by (is_point edge.from payment.payer) refl
    where
      by : (b : Bool) → is_point edge.from payment.payer ≡ b → is_point edge.from payment.payer ≡ false
      by true same = absurd (true≢false (sym (rw same at is)))
      by false same = same

  -- over an edge of those over which a part is searched for
  edge_room : (known : Option (List ℕ)) (edge : PointEdge) (amount : ℕ)
      → Among (overlaid_edges known rows (overlay_of payment rows own since busy)) edge → 1 ≤ amount → amount ≤ edge.max
      → HasRoom rows own payment.hints since busy edge.scid edge.from amount
  edge_room known edge amount there some fits =
      let overlay = overlay_of payment rows own since busy in
      let passed = Among-passed (λ edge. takes_payments known rows.nodes edge.to) (laid_over overlay (carrying rows)) edge there in
      let laid = Among-mapped (limited overlay.limits) (firsts overlay.extra ++ filter (is_used overlay) (carrying rows)) edge passed.0 in
      let max : most_of overlay.limits laid.0.scid laid.0.from laid.0.max ≡ edge.max = ap (λ (e : PointEdge). e.max) laid.2 in
      let scid : laid.0.scid ≡ edge.scid = ap (λ (e : PointEdge). e.scid) laid.2 in
      let from : laid.0.from ≡ edge.from = ap (λ (e : PointEdge). e.from) laid.2 in
      let room = by laid.0 (omega arith) (Among-either (firsts overlay.extra) (filter (is_used overlay) (carrying rows)) laid.0 laid.1) in
      subst (λ (p : Point). HasRoom rows own payment.hints since busy edge.scid p amount) from
      (subst (λ n. HasRoom rows own payment.hints since busy n laid.0.from amount) scid room)
    where
      by : (base : PointEdge) → amount ≤ most_of (overlay_of payment rows own since busy).limits base.scid base.from base.max
          → Among (firsts (overlay_of payment rows own since busy).extra) base
          ⊎ Among (filter (is_used (overlay_of payment rows own since busy)) (carrying rows)) base
          → HasRoom rows own payment.hints since busy base.scid base.from amount
      by base fits (inl extra) =
          extra_room (overlay_of payment rows own since busy).limits base amount extra some fits
      by base fits (inr public) =
          let passed = Among-passed (is_used (overlay_of payment rows own since busy)) (carrying rows) base public in
          let used = and_parts _ _ passed.1 in
          public_room (limits_left payment.payer payment.hints payment.parts) base amount passed.0
          (others_alone base (all_silenced payment.payer payment.hints payment.parts) used.0) (unnamed base used.1) some fits

  -- ---- of a route

  -- the hops of a walk take no more than their edges have
  walk_room : (known : Option (List ℕ)) (request : Request) (node : Point) (walk : List PointEdge) → 1 ≤ request.amount
      → IsRest (overlaid_edges known rows (overlay_of payment rows own since busy)) request node walk
      → HaveRoom rows own payment.hints since busy (hops_of request walk)
  walk_room known request node [] some joins = tt
  walk_room known request node (edge ∷ rest) some joins =
      let more = owed_more request.amount rest in (
        edge_room known edge (owed request.amount rest)
            (Among-Contains (overlaid_edges known rows (overlay_of payment rows own since busy)) edge joins.0.there)
            (omega arith) joins.0.below_max,
        walk_room known request edge.to rest some joins.1,
      )

  some_room : (limits : RouteLimits) (known : Option (List ℕ)) (request : Request) (hops : List Hop) → 1 ≤ request.amount
      → IsSomeRoute limits (overlaid_edges known rows (overlay_of payment rows own since busy)) request hops
      → HaveRoom rows own payment.hints since busy hops
  some_room limits known request hops some route =
      subst (λ h. HaveRoom rows own payment.hints since busy h) (sym route.3)
      (walk_room known request request.payer route.0 some route.1.joins)

  within_room : (limits : Option RouteLimits) (known : Option (List ℕ)) (penalty : PointEdge → ℕ → ℕ) (odds : List Hop → ℕ) (height room payee_room : ℕ) (capacities : Capacities)
      (request : Request) (found : Found) → 1 ≤ request.amount
      → IsAnswerWithin limits (record {
        penalty = penalty;
        odds = odds;
        edges = overlaid_edges known rows (overlay_of payment rows own since busy);
        height = height;
        room = room;
        payee_room = payee_room;
        capacities = capacities;
      }) request (Ok found)
      → HaveRoom rows own payment.hints since busy found.route
  within_room None known penalty odds height room payee_room capacities request found some none = cc
  within_room (Some limits) known penalty odds height room payee_room capacities request found some answer =
      some_room limits known request found.route some answer.1

  -- what a part is sent over has room
  pub found_room : (known : Option (List ℕ)) (penalty : PointEdge → ℕ → ℕ) (odds : List Hop → ℕ) (height room payee_room amount : ℕ) (capacities : Capacities) (found : Found)
      → 1 ≤ amount
      → IsFoundFor (record {
        penalty = penalty;
        odds = odds;
        edges = overlaid_edges known rows (overlay_of payment rows own since busy);
        height = height;
        room = room;
        payee_room = payee_room;
        capacities = capacities;
      }) payment amount found
      → HaveRoom rows own payment.hints since busy found.route
  found_room known penalty odds height room payee_room amount capacities found some (inl route) =
      within_room (route_limits payment) known penalty odds height room payee_room capacities (request_of payment amount height) found some route.answer.within
  found_room known penalty odds height room payee_room amount capacities found some (inr route) =
      within_room (route_limits payment) known (penalty_at no_preferences []) odds height room payee_room capacities (request_of payment amount height) found some
      route.route.answer.within
