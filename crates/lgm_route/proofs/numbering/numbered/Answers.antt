use Rattle.std.proofs.Common.{sym}
use Rattle.lgm_route.proofs.PointWalkLaws.{none_from, none_to}
use Rattle.lgm_route.proofs.numbering.numbered.Goals as goal

pub returns-in_default-clause-numbered : goal.returns-in_default-clause-numbered
returns-in_default-clause-numbered g c = λ walk usable within.
    none_from (g.V.RoutingGraph.graph c.args.view.now) c.args.request.now c.nodes-nodes.ensures.listed
    (rw c.get-request.ensures.same at (sym c.in_default.ensures)) walk usable

pub returns-in_default-node_number-clause-numbered : goal.returns-in_default-node_number-clause-numbered
returns-in_default-node_number-clause-numbered g c = λ walk usable within.
    none_to (g.V.RoutingGraph.graph c.args.view.now) c.args.request.now c.nodes-nodes.ensures.listed
    (rw c.get-request.ensures.same at (sym c.in_default-node_number.ensures)) walk usable
