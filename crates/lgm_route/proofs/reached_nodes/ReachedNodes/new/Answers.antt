use Rattle.std.proofs.Common.{◌<◌, ◌^◌, length, arith}
use Rattle.lgm_graph.proofs.PlaceLaws.{none_placed}
use Rattle.lgm_route.specs.declared.reached_nodes.Reached.{Reached}
use Rattle.lgm_route.proofs.ReachedLaws.{none_closed}
use Rattle.lgm_route.proofs.reached_nodes.ReachedNodes.new.Goals as goal

pub invariant_of-result : goal.invariant_of-result
invariant_of-result c =
    let places = c.in_ok-no_places.field-0.items in
    let few : length places < 2 ^ 32 = omega (arith, c.in_ok-no_places.ensures.long, c.requires) in
    rw c.in_ok-with_capacity.ensures.items (none_placed (λ (reached : Reached). reached.node) places c.in_ok-no_places.ensures.none few)

pub returns-clause-opened : goal.returns-clause-opened
returns-clause-opened c =
    rw c.in_ok-with_capacity.ensures.items (none_closed c.in_ok-no_places.field-0.items c.in_ok-no_places.ensures.none)
