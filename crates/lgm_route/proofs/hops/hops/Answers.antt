use Rattle.std.proofs.Common.{arith}
use Rattle.lgm_route.proofs.HopLaws.{hops_more, owed_fits}
use Rattle.lgm_route.proofs.hops.hops.Goals as goal

pub overflow_cast-amount : goal.overflow_cast-amount
overflow_cast-amount g c =
    let fits =
    owed_fits (g.V.RoutingGraph.graph c.args.view.now) c.args.request.now c.args.walk.now c.loop-i.i c.loop-i.owed c.loop-i.due
    c.loop-i.hops.items c.loop-i-test.true c.requires.carried c.loop-i.invariant in
    omega arith

pub loop-i-preserved : goal.loop-i-preserved
loop-i-preserved g c =
    let walk = c.args.walk.now in
    let edge = c.index-walk-walk.result in
    hops_more (g.V.RoutingGraph.graph c.args.view.now) c.args.request.now walk c.loop-i.i c.loop-i.owed c.loop-i.due
    c.loop-i.hops.items c.push.new.self.items edge edge c.hop_over.result c.fee-owed.result
    c.loop-i-test.true c.index-walk-walk.is (omega arith) c.hop_over.ensures c.fee-owed.ensures.value c.in_ok-push.ensures.items c.loop-i.invariant
