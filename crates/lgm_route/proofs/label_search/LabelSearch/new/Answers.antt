use Rattle.std.proofs.Common.{◌∙◌, ◌++◌, ◌∷◌, [], ap}
use Rattle.lgm_route.specs.inner.Numbered.{asked}
use Rattle.lgm_route.proofs.Searches.{begun}
use Rattle.lgm_route.proofs.label_search.LabelSearch.new.Goals as goal

pub invariant_of-result : goal.invariant_of-result
invariant_of-result g c =
    begun (g.V.RoutingGraph.graph c.args.view.now) (asked (g.P.Penalties.terms c.args.request.penalties) c.args.request) c.args.low c.args.upper_bound c.args.budget c.requires.hops c.requires.listed c.requires.long
    c.requires.low c.requires.small c.requires.upper_bound c.push.new.self.items
    (c.in_ok-push.ensures.items ∙ ap (λ ls. ls ++ c.at_payee.result ∷ []) c.new-labels.ensures.items
    ∙ ap (λ l. l ∷ []) c.at_payee.ensures) c.in_ok-fronts.fronts c.in_ok-fronts.ensures c.new-2.result.items c.new-2.ensures.items
