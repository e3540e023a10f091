use Rattle.std.proofs.Common.{◌≡◌, ◌∙◌, ◌^◌, rules, ◌<◌, ◌+◌, ◌-◌, suc, length, ap, arith}
use Rattle.lgm_route.specs.inner.Reaching.{Table, found}
use Rattle.lgm_graph.proofs.PlaceLaws.{place_within, few_nodes, more_placed, more_here, more_others}
use Rattle.lgm_route.proofs.ReachedPlaces.{place_is, place_is_not, within_in, again_placed, again_here, again_others}
use Rattle.lgm_route.proofs.reached_nodes.ReachedNodes.put.Goals as goal

few : (c : goal.In_ok-push) → c.len-index.result + 1 < 2 ^ 32
few c =
    let now : Table = record { places = c.self.inside.places.items; nodes = c.self.inside.nodes.items } in
    let within = within_in now c.args.self.now c.args.reached.node c.self.view_is c.requires in
    let new = place_is_not now c.args.self.now c.args.reached.node c.place_of-place.result c.self.view_is c.place_of-place.ensures c.if-place-eq0.true in
    let fits = few_nodes now c.self.invariant c.args.reached within new in
    let index : c.len-index.result ≡ length now.nodes = search rules in
    omega (arith, fits, index)

pub overflow_cast-index : goal.overflow_cast-index
overflow_cast-index c = let fits = few c in search rules

pub overflow_add-index : goal.overflow_add-index
overflow_add-index c = let fits = few c in search rules

pub invariant_of-self-then-place-eq0 : goal.invariant_of-self-then-place-eq0
invariant_of-self-then-place-eq0 c =
    let now : Table = record { places = c.self.inside.places.items; nodes = c.self.inside.nodes.items } in
    let within = within_in now c.args.self.now c.args.reached.node c.self.view_is c.requires in
    let new = place_is_not now c.args.self.now c.args.reached.node c.place_of-place.result c.self.view_is c.place_of-place.ensures c.if-place-eq0.true in
    let index : c.len-index.result + 1 ≡ suc (length now.nodes) = search rules in
    rw (c.in_ok-push.ensures.items, index) (more_placed now c.self.invariant c.args.reached within new)

pub returns-then-place-eq0-clause-here : goal.returns-then-place-eq0-clause-here
returns-then-place-eq0-clause-here c =
    let now : Table = record { places = c.self.inside.places.items; nodes = c.self.inside.nodes.items } in
    let within = within_in now c.args.self.now c.args.reached.node c.self.view_is c.requires in
    let new = place_is_not now c.args.self.now c.args.reached.node c.place_of-place.result c.self.view_is c.place_of-place.ensures c.if-place-eq0.true in
    let index : c.len-index.result + 1 ≡ suc (length now.nodes) = search rules in
    rw (c.in_ok-push.ensures.items, index) (more_here now c.self.invariant c.args.reached within new)

pub returns-then-place-eq0-clause-others : goal.returns-then-place-eq0-clause-others
returns-then-place-eq0-clause-others c =
    let now : Table = record { places = c.self.inside.places.items; nodes = c.self.inside.nodes.items } in
    let within = within_in now c.args.self.now c.args.reached.node c.self.view_is c.requires in
    let new = place_is_not now c.args.self.now c.args.reached.node c.place_of-place.result c.self.view_is c.place_of-place.ensures c.if-place-eq0.true in
    let index : c.len-index.result + 1 ≡ suc (length now.nodes) = search rules in
    rw (c.in_ok-push.ensures.items, index) (λ other apart. more_others now c.self.invariant c.args.reached within new other apart
    ∙ ap (λ (t : Table). found t other) c.self.view_is)

pub index_mut-requires-2 : goal.index_mut-requires-2
index_mut-requires-2 c =
    let now : Table = record { places = c.self.inside.places.items; nodes = c.self.inside.nodes.items } in
    let there = place_is now c.args.self.now c.args.reached.node c.place_of-place.result c.self.view_is c.place_of-place.ensures c.if-place-eq0.false in
    let lt = place_within now c.self.invariant c.args.reached.node (c.place_of-place.result - 1) there in
    search rules

pub invariant_of-self-2 : goal.invariant_of-self-2
invariant_of-self-2 c =
    let now : Table = record { places = c.self.inside.places.items; nodes = c.self.inside.nodes.items } in
    let there = place_is now c.args.self.now c.args.reached.node c.place_of-place.result c.self.view_is c.place_of-place.ensures c.if-place-eq0.false in
    again_placed now c.self.invariant c.args.reached (c.place_of-place.result - 1) there

pub returns-clause-here : goal.returns-clause-here
returns-clause-here c =
    let now : Table = record { places = c.self.inside.places.items; nodes = c.self.inside.nodes.items } in
    let there = place_is now c.args.self.now c.args.reached.node c.place_of-place.result c.self.view_is c.place_of-place.ensures c.if-place-eq0.false in
    again_here now c.self.invariant c.args.reached (c.place_of-place.result - 1) there

pub returns-clause-others : goal.returns-clause-others
returns-clause-others c = λ other apart.
    let now : Table = record { places = c.self.inside.places.items; nodes = c.self.inside.nodes.items } in
    let there = place_is now c.args.self.now c.args.reached.node c.place_of-place.result c.self.view_is c.place_of-place.ensures c.if-place-eq0.false in
    again_others now c.self.invariant c.args.reached (c.place_of-place.result - 1) there other apart
    ∙ ap (λ (t : Table). found t other) c.self.view_is
