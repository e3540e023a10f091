use Rattle.std.proofs.Common.{◌<◌, ap, arith}
use Rattle.lgm_route.specs.inner.Reaching.{fees_by, closed_by, fees_in}
use Rattle.lgm_route.specs.inner.Searching.{number_at}
use Rattle.lgm_route.proofs.ReachedLaws.{lowered_at}
use Rattle.lgm_route.proofs.ReachedPlaces.{within_of}
use Rattle.lgm_route.proofs.reached_nodes.ReachedNodes.lower.Goals as goal

pub returns-clause-lowered : goal.returns-clause-lowered
returns-clause-lowered c =
    let put = c.in_ok-put.ensures in
    let less : c.args.amount < number_at (fees_in c.args.self.now) c.args.node =
    omega (arith, c.distance_to.ensures, c.if-distance_to-amount.false) in
    lowered_at c.args.self.now c.put.new.self c.args.node put.long put.others c.args.amount
    (within_of c.args.self.now c.args.node c.args.amount less) (ap fees_by put.here) (ap closed_by put.here) less
