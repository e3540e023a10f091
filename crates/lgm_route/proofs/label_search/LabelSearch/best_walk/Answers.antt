use Rattle.std.proofs.Common.{◌≡◌, ◌<◌, ◌^◌, length, sym, subst}
use Rattle.lgm_graph.specs.Graph.{edges}
use Rattle.lgm_route.specs.inner.Numbered.{asked, sent, IsUsable, IsLeast}
use Rattle.lgm_route.specs.inner.Searching.{Spells}
use Rattle.lgm_route.specs.inner.SearchState.{SearchState, state_of, IsFinished}
use Rattle.lgm_route.proofs.Searches.{walk_least, walk_usable}
use Rattle.lgm_route.proofs.label_search.LabelSearch.best_walk.Goals as goal

pub returns-in_ok-walk-in-Some-clause-usable : goal.returns-in_ok-walk-in-Some-clause-usable
returns-in_ok-walk-in-Some-clause-usable g c =
    let s : SearchState =
    state_of (g.V.RoutingGraph.graph c.self.inside.view.now) (asked (g.P.Penalties.terms c.self.inside.request.penalties) c.self.inside.request) c.self.inside.low c.self.inside.upper_bound c.self.inside.budget
    c.self.inside.labels.items c.self.inside.best c.self.inside.fronts c.self.inside.done.items c.self.inside.spent c.self.inside.dived in
    let walk = c.in_ok-walk-in-Some.walk.items in
    let spelled =
    subst (λ ls. Spells s.ground.graph ls c.in-Some.best walk × (length walk ≡ c.in-Some.best.hops))
    c.deref.ensures.value c.in_ok-walk-in-Some.ensures in
    subst (λ t. IsUsable (edges t.ground.graph) t.ground.request walk × (sent t.ground.request.amount walk < 2 ^ 64)) c.self.view_is
    (walk_usable s c.in-Some.best walk c.in-Some.is c.self.invariant spelled)

pub returns-in_ok-walk-in-Some-clause-best : goal.returns-in_ok-walk-in-Some-clause-best
returns-in_ok-walk-in-Some-clause-best g c = λ finished.
    let s : SearchState =
    state_of (g.V.RoutingGraph.graph c.self.inside.view.now) (asked (g.P.Penalties.terms c.self.inside.request.penalties) c.self.inside.request) c.self.inside.low c.self.inside.upper_bound c.self.inside.budget
    c.self.inside.labels.items c.self.inside.best c.self.inside.fronts c.self.inside.done.items c.self.inside.spent c.self.inside.dived in
    let walk = c.in_ok-walk-in-Some.walk.items in
    let spelled =
    subst (λ ls. Spells s.ground.graph ls c.in-Some.best walk × (length walk ≡ c.in-Some.best.hops))
    c.deref.ensures.value c.in_ok-walk-in-Some.ensures in
    subst (λ t. IsLeast (edges t.ground.graph) t.ground.request walk × (sent t.ground.request.amount walk < 2 ^ 64)) c.self.view_is
    (walk_least s c.in-Some.best walk c.in-Some.is c.self.invariant (subst IsFinished (sym c.self.view_is) finished) spelled)
