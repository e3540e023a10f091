use Rattle.lgm_route.specs.inner.Numbered.{asked}
use Rattle.lgm_route.proofs.RestsMade.{used_up_by}
use Rattle.lgm_route.proofs.walks.walk_within.Goals as goal

pub returns-clause-used_up : goal.returns-clause-used_up
returns-clause-used_up g c = λ cut.
    used_up_by (g.V.RoutingGraph.graph c.args.view.now) (asked (g.P.Penalties.terms c.args.request.now.penalties) c.args.request.now)
    c.args.budget.now c.in_ok-search.search c.settle_best_first.new.self c.in-Err.halt c.in_ok-search.ensures c.in-Err.ensures.halted
    c.best_found-in_default.ensures.search c.in_default.not-NoMemory
