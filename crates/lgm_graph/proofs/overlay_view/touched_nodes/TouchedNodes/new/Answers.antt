use Rattle.std.proofs.Common.{◌<◌, ◌^◌, length, arith}
use Rattle.lgm_graph.specs.inner.Overlaying.{NodeOverrides}
use Rattle.lgm_graph.proofs.PlaceLaws.{none_placed}
use Rattle.lgm_graph.proofs.overlay_view.touched_nodes.TouchedNodes.new.Goals as goal

pub invariant_of-result : goal.invariant_of-result
invariant_of-result c =
    let places = c.in_ok-no_places.field-0.items in
    let few : length places < 2 ^ 32 = omega (arith, c.in_ok-no_places.ensures.long, c.requires) in
    rw c.new.ensures.items (none_placed (λ (local : NodeOverrides). local.node) places c.in_ok-no_places.ensures.none few)
