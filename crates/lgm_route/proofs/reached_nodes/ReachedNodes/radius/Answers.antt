use Rattle.std.proofs.Common.{arith, ap, length, subst, ◌≤◌}
use Rattle.lgm_route.specs.inner.Bounding.{IsRadius}
use Rattle.lgm_route.specs.inner.Reaching.{Table, fees_in, closed_in}
use Rattle.lgm_route.proofs.ReachedPlaces.{IsLeastOf, radius_of, least_next}
use Rattle.lgm_route.proofs.reached_nodes.ReachedNodes.radius.Goals as goal

pub loop-node-init : goal.loop-node-init
loop-node-init c = record { small = omega arith; least = λ k reached lt known still. absurd (omega (arith, lt)) }

pub loop-node-preserved : goal.loop-node-preserved
loop-node-preserved c =
    least_next c.deref-node-items.result.now c.loop-node.node-index c.loop-node.least c.lesser-least.result c.node-item.result
    c.loop-node-test.true c.node-item.is c.lesser-least.ensures.low c.lesser-least.ensures.least c.loop-node.invariant

pub returns : goal.returns
returns c =
    let now : Table = record { places = c.self.inside.places.items; nodes = c.self.inside.nodes.items } in
    let items = c.deref-node-items.ensures.value in
    let all : length now.nodes ≤ c.loop-node.node-index = omega (arith, c.loop-node-test.false, ap length items) in
    subst (λ (t : Table). IsRadius (fees_in t) (closed_in t) c.loop-node.least) c.self.view_is
    (radius_of now c.loop-node.node-index c.loop-node.least all
    (subst (λ nodes. IsLeastOf nodes c.loop-node.node-index c.loop-node.least) items c.loop-node.invariant))
