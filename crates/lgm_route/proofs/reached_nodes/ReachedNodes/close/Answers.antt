use Rattle.std.proofs.Common.{◌-◌, set, rules, subst}
use Rattle.lgm_route.specs.inner.Bounding.{IsShut}
use Rattle.lgm_route.specs.inner.Reaching.{Table, fees_in, closed_in}
use Rattle.lgm_graph.proofs.PlaceLaws.{place_within}
use Rattle.lgm_route.proofs.ReachedPlaces.{place_is, closed_of, closed_placed, closed_shut}
use Rattle.lgm_route.proofs.reached_nodes.ReachedNodes.close.Goals as goal

pub index-reached-requires : goal.index-reached-requires
index-reached-requires c =
    let now : Table = record { places = c.self.inside.places.items; nodes = c.self.inside.nodes.items } in
    let there = place_is now c.args.self.now c.args.node c.place_of-place.result c.self.view_is c.place_of-place.ensures c.if-place-eq0.false in
    let lt = place_within now c.self.invariant c.args.node (c.place_of-place.result - 1) there in
    search rules

pub index_mut-requires : goal.index_mut-requires
index_mut-requires c =
    let now : Table = record { places = c.self.inside.places.items; nodes = c.self.inside.nodes.items } in
    let there = place_is now c.args.self.now c.args.node c.place_of-place.result c.self.view_is c.place_of-place.ensures c.if-place-eq0.false in
    let lt = place_within now c.self.invariant c.args.node (c.place_of-place.result - 1) there in
    search rules

pub invariant_of-self : goal.invariant_of-self
invariant_of-self c =
    let now : Table = record { places = c.self.inside.places.items; nodes = c.self.inside.nodes.items } in
    let there = place_is now c.args.self.now c.args.node c.place_of-place.result c.self.view_is c.place_of-place.ensures c.if-place-eq0.false in
    closed_placed now c.self.invariant c.args.node (c.place_of-place.result - 1) c.index-reached.result.now there c.index-reached.ensures

pub returns-clause-shut : goal.returns-clause-shut
returns-clause-shut c =
    let now : Table = record { places = c.self.inside.places.items; nodes = c.self.inside.nodes.items } in
    let there = place_is now c.args.self.now c.args.node c.place_of-place.result c.self.view_is c.place_of-place.ensures c.if-place-eq0.false in
    let after : Table = record { places = now.places; nodes = set now.nodes (c.place_of-place.result - 1) (closed_of c.index-reached.result.now) } in
    subst (λ (t : Table). IsShut (fees_in t) (closed_in t) c.args.node (fees_in after) (closed_in after)) c.self.view_is
    (closed_shut now c.self.invariant c.args.node (c.place_of-place.result - 1) c.index-reached.result.now there c.index-reached.ensures)
