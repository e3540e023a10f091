use Rattle.std.proofs.Common.{Some, subst}
use Rattle.std.specs.Prelude.{if◌then◌else◌}
use Rattle.lgm_route.specs.inner.Searching.{IsBetter}
use Rattle.lgm_route.specs.inner.SearchState.{SearchState, state_of, Extends}
use Rattle.lgm_route.specs.inner.Numbered.{asked}
use Rattle.lgm_route.proofs.Searches.{search_better, extends_better}
use Rattle.lgm_route.proofs.label_search.LabelSearch.improve.Goals as goal
use Rattle.lgm_route.proofs.label_search.LabelSearch.improve.Goals.{After-self-1}

abbrev now : (g : _) → After-self-1 g → SearchState
now g c =
    state_of (g.V.RoutingGraph.graph c.self.inside.view.now) (asked (g.P.Penalties.terms c.self.inside.request.penalties) c.self.inside.request) c.self.inside.low c.self.inside.upper_bound c.self.inside.budget
    c.self.inside.labels.items c.self.inside.best c.self.inside.fronts c.self.inside.done.items c.self.inside.spent c.self.inside.dived

better : (g : _) (c : After-self-1 g) → IsBetter (now g c).ground.graph (now g c).ground.request (now g c).labels (now g c).ground.upper_bound (now g c).best c.args.new (Some c.args.new)
better g c =
    let s = now g c in
    subst (λ ls. IsBetter s.ground.graph s.ground.request ls s.ground.upper_bound s.best c.args.new (Some c.args.new)) c.deref.ensures.value
    (subst (λ b. IsBetter s.ground.graph s.ground.request c.deref.result.now s.ground.upper_bound s.best c.args.new
    (if b then Some c.args.new else s.best)) c.if-is_better.true c.is_better.ensures)

pub invariant_of-self : goal.invariant_of-self
invariant_of-self g c = search_better (now g c) c.args.new (Some c.args.new) c.self.invariant (better g c)

pub returns-then-is_better-clause-extends : goal.returns-then-is_better-clause-extends
returns-then-is_better-clause-extends g c =
    subst (λ t. Extends t (record (now g c) { best = Some c.args.new })) c.self.view_is
    (extends_better (now g c) c.args.new (Some c.args.new) (better g c))
