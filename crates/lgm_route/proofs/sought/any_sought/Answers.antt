use Rattle.std.proofs.Common.{◌<◌, arith, below_more}
use Rattle.lgm_route.specs.inner.Seeking.{NoneIsInto}
use Rattle.lgm_route.proofs.SoughtEdges.{none_sought}
use Rattle.lgm_route.proofs.sought.any_sought.Goals as goal

pub loop-number-preserved : goal.loop-number-preserved
loop-number-preserved g c =
    below_more (NoneIsInto (g.V.RoutingGraph.graph c.args.graph.now) c.args.sought.now) c.loop-number.number c.loop-number.invariant
    (c.any_into.ensures.none c.if-any_into.false)

pub returns-clause-none : goal.returns-clause-none
returns-clause-none g c = λ no.
    let graph = g.V.RoutingGraph.graph c.args.graph.now in
    none_sought graph c.nodes-nodes.ensures.listed c.args.sought.now
    (λ k lt. let before : k < c.loop-number.number = omega (arith, lt, c.loop-number-test.false, c.nodes-nodes.ensures.count) in
    c.loop-number.invariant k before)
