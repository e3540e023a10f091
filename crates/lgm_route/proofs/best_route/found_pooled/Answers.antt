use Rattle.std.proofs.Common.{refl, subst}
use Rattle.lgm_graph.specs.Graph.{point_edges}
use Rattle.lgm_route.specs.Preferred.{IsPreferredAnswer, IsRouteBy}
use Rattle.lgm_route.specs.inner.Best.{any_budget, free}
use Rattle.lgm_route.proofs.FoundRoutes.{any_lasts}
use Rattle.lgm_route.proofs.best_route.found_pooled.Goals as goal

pub returns-then-pool-eq1-clause-answer : goal.returns-then-pool-eq1-clause-answer
returns-then-pool-eq1-clause-answer g c =
    let edges = point_edges (g.V.RoutingGraph.graph c.args.graph.now) in
    let request = c.args.request.now in
    subst (λ l. IsRouteBy (IsPreferredAnswer free l edges request) l edges request c.found_within.result) c.none-limits.ensures
    (c.found_within.ensures.answer free (λ edge numbered amount. refl))

pub returns-clause-answer : goal.returns-clause-answer
returns-clause-answer g c =
    let edges = point_edges (g.V.RoutingGraph.graph c.args.graph.now) in
    let request = c.args.request.now in
    subst (λ l. IsRouteBy (IsPreferredAnswer free l edges request) l edges request c.with_route.result) c.none-limits.ensures
    (c.with_route.ensures.answer free (λ edge numbered amount. refl))

pub returns-clause-sure : goal.returns-clause-sure
returns-clause-sure g c = λ cut.
    let edges = point_edges (g.V.RoutingGraph.graph c.args.graph.now) in
    any_lasts c.none-limits.result edges c.args.request.now
    (c.with_route.ensures.used_up any_budget (λ short. absurd (c.walk_pooled-found.ensures.sure short)) cut)
