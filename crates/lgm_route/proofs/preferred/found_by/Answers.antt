use Rattle.std.proofs.Common.{sym, subst, inl, inr}
use Rattle.lgm_graph.specs.Graph.{point_edges}
use Rattle.lgm_route.specs.Preferred.{IsPreferredAnswer, IsRouteBy, IsUsedUp, no_limits}
use Rattle.lgm_route.proofs.FoundRoutes.{answer_settled, settled_whole, open_beyond, any_lasts}
use Rattle.lgm_route.proofs.preferred.found_by.Goals as goal

pub returns-then-is_settled-clause-answer : goal.returns-then-is_settled-clause-answer
returns-then-is_settled-clause-answer g c = λ penalty alike.
    let edges = point_edges (g.V.RoutingGraph.graph c.args.graph.now) in
    let request = c.args.request.now in
    let first = c.found_within-first.result in
    let is = subst (λ l. IsRouteBy (IsPreferredAnswer penalty l edges request) l edges request first) c.none.ensures
    (c.found_within-first.ensures.answer penalty alike) in
    elim (c.is_settled.ensures.settled c.if-is_settled.true) [
      | inl none ↦ subst (λ l. IsRouteBy (IsPreferredAnswer penalty l edges request) l edges request first) (sym none) is
      | inr settled ↦ answer_settled penalty c.args.limits.now edges request first settled is
    ]

pub returns-then-is_settled-clause-used_up : goal.returns-then-is_settled-clause-used_up
returns-then-is_settled-clause-used_up g c = λ cut.
    let edges = point_edges (g.V.RoutingGraph.graph c.args.graph.now) in
    let request = c.args.request.now in
    let first = c.found_within-first.result in
    let used = subst (λ l. IsUsedUp l edges request c.args.whole.now) c.none.ensures (c.found_within-first.ensures.used_up cut) in
    elim (c.is_settled.ensures.settled c.if-is_settled.true) [
      | inl none ↦ elim c.requires [
        | inl any ↦ absurd (any_lasts no_limits edges request (subst (IsUsedUp no_limits edges request) any used))
        | inr same ↦ subst (λ l. IsUsedUp l edges request c.args.budget.now) (sym none) (subst (IsUsedUp no_limits edges request) same used)
      ]
      | inr settled ↦ absurd (settled_whole c.args.limits.now request.expiry first settled cut)
    ]

pub returns-then-is_settled-clause-beyond : goal.returns-then-is_settled-clause-beyond
returns-then-is_settled-clause-beyond g c = λ penalty alike free any cut.
    let edges = point_edges (g.V.RoutingGraph.graph c.args.graph.now) in
    let request = c.args.request.now in
    absurd (any_lasts c.none.result edges request
    (subst (IsUsedUp c.none.result edges request) any (c.found_within-first.ensures.used_up cut)))

pub returns-clause-answer : goal.returns-clause-answer
returns-clause-answer g c = λ penalty alike. c.found_within.ensures.answer penalty alike

pub returns-clause-beyond : goal.returns-clause-beyond
returns-clause-beyond g c = λ penalty alike free any cut.
    let edges = point_edges (g.V.RoutingGraph.graph c.args.graph.now) in
    let request = c.args.request.now in
    let first = c.found_within-first.result in
    let is = subst (λ l. IsRouteBy (IsPreferredAnswer penalty l edges request) l edges request first) c.none.ensures
    (c.found_within-first.ensures.answer penalty alike) in
    open_beyond penalty free c.args.limits.now edges request first (c.is_settled.ensures.open c.if-is_settled.false)
    (λ short. any_lasts c.none.result edges request
    (subst (IsUsedUp c.none.result edges request) any (c.found_within-first.ensures.used_up short))) is
