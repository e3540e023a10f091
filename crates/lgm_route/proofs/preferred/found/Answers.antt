use Rattle.std.proofs.Common.{◌∙◌, refl, sym, inl, inr}
use Rattle.std.proofs.lemmas.Bool.{false≢true}
use Rattle.lgm_graph.specs.Graph.{edge_between}
use Rattle.lgm_route.specs.Preferred.{penalty_for}
use Rattle.lgm_route.proofs.FoundRoutes.{weights_alike}
use Rattle.lgm_route.proofs.PreferredLaws.{plain_free}
use Rattle.lgm_route.proofs.preferred.found.Goals as goal

pub found_by-requires : goal.found_by-requires
found_by-requires g c = inl c.any-whole.ensures

pub returns-then-is_plain-clause-answer : goal.returns-then-is_plain-clause-answer
returns-then-is_plain-clause-answer g c =
    let graph = g.V.RoutingGraph.graph c.args.graph.now in
    let search = c.args.search.now in
    let free = plain_free search (c.is_plain.ensures.plain c.if-is_plain.true) in
    c.found_by.ensures.answer (penalty_for search) (λ edge numbered amount. sym (free (edge_between graph.points edge) amount))

pub returns-then-is_plain-clause-beyond : goal.returns-then-is_plain-clause-beyond
returns-then-is_plain-clause-beyond g c = λ none cut.
    let graph = g.V.RoutingGraph.graph c.args.graph.now in
    let search = c.args.search.now in
    let free = plain_free search none in
    c.found_by.ensures.beyond (penalty_for search) (λ edge numbered amount. sym (free (edge_between graph.points edge) amount)) free
    c.any-whole.ensures cut

pub found_by-requires-2 : goal.found_by-requires-2
found_by-requires-2 g c = inr refl

pub returns-clause-answer : goal.returns-clause-answer
returns-clause-answer g c =
    let graph = g.V.RoutingGraph.graph c.args.graph.now in
    let search = c.args.search.now in
    c.found_by-2.ensures.answer (penalty_for search) (weights_alike graph search.preferences search.estimates.now)

pub returns-clause-beyond : goal.returns-clause-beyond
returns-clause-beyond g c = λ none cut. absurd (false≢true (sym c.if-is_plain.false ∙ c.is_plain.ensures.all none))
