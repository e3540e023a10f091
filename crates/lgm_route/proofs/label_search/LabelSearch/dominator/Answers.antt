use Rattle.std.proofs.Common.{◌≡◌, ◌≤◌, ◌^◌, ◌<◌, ◌∙◌, length, refl, sym, subst}
use Rattle.std.proofs.lemmas.List.{get_or_default}
use Rattle.lgm_route.specs.inner.Searching.{label_at, no_label, AreSpelled, IsSpelled}
use Rattle.lgm_route.specs.inner.SearchState.{SearchState, state_of}
use Rattle.lgm_route.proofs.Passed.{serves_itself}
use Rattle.lgm_route.specs.inner.Numbered.{asked}
use Rattle.lgm_route.specs.inner.Fronts.{AreFalling}
use Rattle.lgm_route.specs.inner.Spending.{compares_of, labels_of}
use Rattle.lgm_route.proofs.Searches.{spelled}
use Rattle.lgm_route.proofs.SpentSearches.{compared_few}
use Rattle.lgm_route.proofs.label_search.LabelSearch.dominator.Goals as goal

pub find_dominator-found-requires-clause-spelled : goal.find_dominator-found-requires-clause-spelled
find_dominator-found-requires-clause-spelled g c =
    let s : SearchState =
    state_of (g.V.RoutingGraph.graph c.self.inside.view.now) (asked (g.P.Penalties.terms c.self.inside.request.penalties) c.self.inside.request) c.self.inside.low c.self.inside.upper_bound c.self.inside.budget
    c.self.inside.labels.items c.self.inside.best c.self.inside.fronts c.self.inside.done.items c.self.inside.spent c.self.inside.dived in
    subst (AreSpelled s.ground.graph) (sym c.deref.ensures.value) (spelled s c.self.invariant)

pub find_dominator-found-requires-clause-label : goal.find_dominator-found-requires-clause-label
find_dominator-found-requires-clause-label g c =
    let s : SearchState =
    state_of (g.V.RoutingGraph.graph c.self.inside.view.now) (asked (g.P.Penalties.terms c.self.inside.request.penalties) c.self.inside.request) c.self.inside.low c.self.inside.upper_bound c.self.inside.budget
    c.self.inside.labels.items c.self.inside.best c.self.inside.fronts c.self.inside.done.items c.self.inside.spent c.self.inside.dived in
    let within : c.args.i < length s.labels = subst (λ t. c.args.i < length t.labels) (sym c.self.view_is) c.requires in
    let at : label_at s.labels c.args.i ≡ c.index.result.now =
    get_or_default s.labels c.args.i no_label c.index.result.now within ∙ sym c.index.ensures in
    subst (λ ls. IsSpelled s.ground.graph ls c.index.result.now) (sym c.deref.ensures.value)
    (subst (IsSpelled s.ground.graph s.labels) at (spelled s c.self.invariant c.args.i within))

pub returns-in-None-clause-dominates : goal.returns-in-None-clause-dominates
returns-in-None-clause-dominates g c = record { within = c.requires; node = refl; dominates = serves_itself c.args.self.now.ground.graph c.args.self.now.labels _ }

pub returns-in-None-clause-compared : goal.returns-in-None-clause-compared
returns-in-None-clause-compared g c =
    let s : SearchState =
    state_of (g.V.RoutingGraph.graph c.self.inside.view.now) (asked (g.P.Penalties.terms c.self.inside.request.penalties) c.self.inside.request) c.self.inside.low c.self.inside.upper_bound c.self.inside.budget
    c.self.inside.labels.items c.self.inside.best c.self.inside.fronts c.self.inside.done.items c.self.inside.spent c.self.inside.dived in
    let compared = c.find_dominator-found.result.1 in
    let within : c.args.i < length s.labels = subst (λ t. c.args.i < length t.labels) (sym c.self.view_is) c.requires in
    let at : label_at s.labels c.args.i ≡ c.index.result.now =
    get_or_default s.labels c.args.i no_label c.index.result.now within ∙ sym c.index.ensures in
    subst (λ (t : SearchState). length t.labels < 2 ^ 32 → compared ≤ compares_of t.labels c.args.i) c.self.view_is
    (compared_few s c.args.i compared c.index.result.now c.self.invariant at
    (subst (λ ls. AreFalling s.fronts (length ls) → length ls < 2 ^ 32 → compared ≤ labels_of ls c.index.result.now.node)
    c.deref.ensures.value c.find_dominator-found.ensures.few))

pub returns-in-Some-clause-compared : goal.returns-in-Some-clause-compared
returns-in-Some-clause-compared g c =
    let s : SearchState =
    state_of (g.V.RoutingGraph.graph c.self.inside.view.now) (asked (g.P.Penalties.terms c.self.inside.request.penalties) c.self.inside.request) c.self.inside.low c.self.inside.upper_bound c.self.inside.budget
    c.self.inside.labels.items c.self.inside.best c.self.inside.fronts c.self.inside.done.items c.self.inside.spent c.self.inside.dived in
    let compared = c.find_dominator-found.result.1 in
    let within : c.args.i < length s.labels = subst (λ t. c.args.i < length t.labels) (sym c.self.view_is) c.requires in
    let at : label_at s.labels c.args.i ≡ c.index.result.now =
    get_or_default s.labels c.args.i no_label c.index.result.now within ∙ sym c.index.ensures in
    subst (λ (t : SearchState). length t.labels < 2 ^ 32 → compared ≤ compares_of t.labels c.args.i) c.self.view_is
    (compared_few s c.args.i compared c.index.result.now c.self.invariant at
    (subst (λ ls. AreFalling s.fronts (length ls) → length ls < 2 ^ 32 → compared ≤ labels_of ls c.index.result.now.node)
    c.deref.ensures.value c.find_dominator-found.ensures.few))
