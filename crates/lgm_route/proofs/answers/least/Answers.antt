use Rattle.std.proofs.Common.{subst, refl}
use Rattle.lgm_graph.specs.Graph.{point_edges}
use Rattle.lgm_route.specs.Preferred.{IsPreferredAnswer, IsRouteBy, IsUsedUp}
use Rattle.lgm_route.specs.inner.Best.{free}
use Rattle.lgm_route.proofs.FoundRoutes.{any_lasts, plain_found}
use Rattle.lgm_route.proofs.answers.least.Goals as goal

pub certain-requires : goal.certain-requires
certain-requires c = λ cut.
    any_lasts c.none.result (point_edges c.args.view.now) c.in_ok-request.request
    (subst (IsUsedUp c.none.result (point_edges c.args.view.now) c.in_ok-request.request) c.any.ensures (c.found_within.ensures.used_up cut))

pub returns-clause-answer : goal.returns-clause-answer
returns-clause-answer c =
    let edges = point_edges c.args.view.now in
    let found = c.found_within.result in
    let request = c.in_ok-request.request in
    let is = subst (λ l. IsRouteBy (IsPreferredAnswer free l edges request) l edges request found) c.none.ensures
    (c.found_within.ensures.answer free (λ edge numbered amount. refl)) in
    rw c.certain.ensures (rw c.in_ok-request.ensures.same at (plain_found edges request found is
    (λ cut. any_lasts c.none.result edges request (subst (IsUsedUp c.none.result edges request) c.any.ensures (c.found_within.ensures.used_up cut)))))
