use Rattle.std.proofs.Common.{◌+◌, ◌-◌, ◌^◌, ◌<◌, ◌≤◌, length, min, sym, subst}
use Rattle.lgm_route.specs.inner.SearchState.{SearchState, state_of, Extends}
use Rattle.lgm_route.specs.inner.Numbered.{asked}
use Rattle.lgm_route.specs.inner.Spending.{labels_of}
use Rattle.lgm_route.proofs.Searches.{search_offered, extends_offered, extends-trans}
use Rattle.lgm_route.proofs.SpentSearches.{extends_spent, offered_spends}
use Rattle.lgm_route.proofs.label_search.LabelSearch.offer.Goals as goal

pub invariant_of-self-2 : goal.invariant_of-self-2
invariant_of-self-2 g c =
    let s : SearchState =
    state_of (g.V.RoutingGraph.graph c.self.inside.view.now) (asked (g.P.Penalties.terms c.self.inside.request.penalties) c.self.inside.request) c.self.inside.low c.self.inside.upper_bound c.self.inside.budget
    c.self.inside.labels.items c.self.inside.best c.self.inside.fronts c.self.inside.done.items c.self.inside.spent c.self.inside.dived in
    search_offered s c.args.new c.offer.new.labels.items c.offer.new.fronts c.self.invariant c.in_ok-compared.ensures.offered
    c.offer.ensures.fronts c.offer.ensures.distinct

pub returns-clause-extends : goal.returns-clause-extends
returns-clause-extends g c =
    let s : SearchState =
    state_of (g.V.RoutingGraph.graph c.self.inside.view.now) (asked (g.P.Penalties.terms c.self.inside.request.penalties) c.self.inside.request) c.self.inside.low c.self.inside.upper_bound c.self.inside.budget
    c.self.inside.labels.items c.self.inside.best c.self.inside.fronts c.self.inside.done.items c.self.inside.spent c.self.inside.dived in
    let offered = record s { labels = c.offer.new.labels.items; fronts = c.offer.new.fronts } in
    let spent = min (c.self.inside.spent + c.in_ok-compared.compared) (2 ^ 64 - 1) in
    subst (λ (a : SearchState). Extends c.args.self.now a) (sym c.spend.ensures.counted)
    (subst (λ (t : SearchState). Extends t (record offered { spent = spent })) c.self.view_is
    (extends-trans s offered (record offered { spent = spent })
    (extends_offered s c.args.new c.offer.new.labels.items c.offer.new.fronts c.in_ok-compared.ensures.offered)
    (extends_spent offered spent offered.dived)))

pub returns-clause-spends : goal.returns-clause-spends
returns-clause-spends g c =
    let old = c.self.inside.labels.items in
    let after = c.offer.new.labels.items in
    let spent = c.self.inside.spent in
    let offered = c.in_ok-compared.ensures.offered in
    subst (λ (t : SearchState). length t.labels < 2 ^ 32 → t.spent ≤ c.args.self.now.spent + labels_of t.labels c.args.new.node) (sym c.spend.ensures.counted)
    (subst (λ (t : SearchState). length after < 2 ^ 32
    → min (spent + c.in_ok-compared.compared) (2 ^ 64 - 1) ≤ t.spent + labels_of after c.args.new.node) c.self.view_is
    (offered_spends old after c.args.new.node c.in_ok-compared.compared spent (record { more = offered.more; is = offered.is })
    c.in_ok-compared.ensures.compared))

pub returns-in_err-spend-clause-spends : goal.returns-in_err-spend-clause-spends
returns-in_err-spend-clause-spends g c =
    let old = c.self.inside.labels.items in
    let after = c.offer.new.labels.items in
    let spent = c.self.inside.spent in
    let offered = c.in_ok-compared.ensures.offered in
    subst (λ (t : SearchState). length t.labels < 2 ^ 32 → t.spent ≤ c.args.self.now.spent + labels_of t.labels c.args.new.node) (sym c.spend.ensures.counted)
    (subst (λ (t : SearchState). length after < 2 ^ 32
    → min (spent + c.in_ok-compared.compared) (2 ^ 64 - 1) ≤ t.spent + labels_of after c.args.new.node) c.self.view_is
    (offered_spends old after c.args.new.node c.in_ok-compared.compared spent (record { more = offered.more; is = offered.is })
    c.in_ok-compared.ensures.compared))
