use Rattle.std.proofs.Common.{◌≡◌, ◌∙◌, refl, sym, ap, subst, inr}
use Rattle.std.proofs.lemmas.Result.{err_from_is_err_and}
use Rattle.lgm_graph.specs.Edges.{edges_of, AreKeyed}
use Rattle.lgm_graph.specs.Graph.{point_edges}
use Rattle.lgm_graph.specs.Overlay.{overlaid_edges}
use Rattle.lgm_route.specs.Preferred.{penalty_at, preferred_answer, IsRouteBy, IsUsedUp, IsBeyond}
use Rattle.lgm_route.proofs.PreferredLaws.{route_reordered, route_refused, used_reordered, beyond_reordered}
use Rattle.lgm_route.proofs.preferred.find_over.Goals as goal

pub returns-in_err-request-clause-answer : goal.returns-in_err-request-clause-answer
returns-in_err-request-clause-answer c =
    let view = c.args.view.now in
    let p = err_from_is_err_and c.from_residual.result c.from_residual.ensures.1 in
    rw (p.1, p.2) (inr (route_refused c.args.search.now.preferences c.args.search.now.estimates.now c.args.search.now.limits
    (overlaid_edges view.known c.args.map.now c.args.overlay.now) c.args.request.now c.in_err-request.field-0.0
    (c.overlays_are_lawful.ensures.keyed view.known c.args.map.now c.args.overlay.now c.rows_are_lawful.ensures.ascend)
    c.in_err-request.ensures.refused))

pub returns-then-is_empty-clause-answer : goal.returns-then-is_empty-clause-answer
returns-then-is_empty-clause-answer c =
    let known = c.args.view.now.known in
    let rows = c.args.map.now in
    let same : overlaid_edges known rows c.args.overlay.now ≡ edges_of known rows =
    ap (overlaid_edges known rows) (c.if-is_empty.ensures refl) ∙ c.overlays_are_lawful.ensures.neutral known rows in
    let penalty = penalty_at c.args.search.now.preferences c.args.search.now.estimates.now in
    subst (λ edges. IsRouteBy (λ answer. answer ≡ preferred_answer penalty c.args.search.now.limits edges c.args.request.now) c.args.search.now.limits
    edges c.args.request.now c.found.result) (sym same)
    (route_reordered c.args.search.now.preferences c.args.search.now.estimates.now c.args.search.now.limits (point_edges c.args.view.now) (edges_of known rows)
    c.args.request.now c.found.result
    (subst AreKeyed same (c.overlays_are_lawful.ensures.keyed known rows c.args.overlay.now c.rows_are_lawful.ensures.ascend))
    (c.shows_the_edges.ensures.once rows c.requires.beside) (rw c.in_ok-request.ensures.same at c.found.ensures.answer))

pub returns-then-is_empty-clause-beyond : goal.returns-then-is_empty-clause-beyond
returns-then-is_empty-clause-beyond c = λ none cut.
    let rows = c.args.map.now in
    let bits = c.args.view.now.known in
    let same : overlaid_edges bits rows c.args.overlay.now ≡ edges_of bits rows =
    ap (overlaid_edges bits rows) (c.if-is_empty.ensures refl) ∙ c.overlays_are_lawful.ensures.neutral bits rows in
    subst (λ edges. IsBeyond c.args.search.now.limits edges c.args.request.now) (sym same)
    (beyond_reordered c.args.search.now.limits (point_edges c.args.view.now) (edges_of bits rows) c.args.request.now
    (c.shows_the_edges.ensures.once rows c.requires.beside) (rw c.in_ok-request.ensures.same at (c.found.ensures.beyond none cut)))

pub returns-clause-answer : goal.returns-clause-answer
returns-clause-answer c =
    let view = c.args.view.now in
    route_reordered c.args.search.now.preferences c.args.search.now.estimates.now c.args.search.now.limits (point_edges c.in_ok-over.over)
    (overlaid_edges view.known c.args.map.now c.args.overlay.now) c.args.request.now c.found-2.result
    (c.overlays_are_lawful.ensures.keyed view.known c.args.map.now c.args.overlay.now c.rows_are_lawful.ensures.ascend)
    (c.in_ok-over.ensures.edges c.args.map.now c.rows_are_lawful.ensures.ended c.requires.beside) (rw c.in_ok-request.ensures.same at c.found-2.ensures.answer)

pub returns-clause-beyond : goal.returns-clause-beyond
returns-clause-beyond c = λ none cut.
    beyond_reordered c.args.search.now.limits (point_edges c.in_ok-over.over)
    (overlaid_edges c.args.view.now.known c.args.map.now c.args.overlay.now) c.args.request.now
    (c.in_ok-over.ensures.edges c.args.map.now c.rows_are_lawful.ensures.ended c.requires.beside)
    (rw c.in_ok-request.ensures.same at (c.found-2.ensures.beyond none cut))

pub returns-then-is_empty-clause-used_up : goal.returns-then-is_empty-clause-used_up
returns-then-is_empty-clause-used_up c = λ cut.
    let rows = c.args.map.now in
    let bits = c.args.view.now.known in
    let same : overlaid_edges bits rows c.args.overlay.now ≡ edges_of bits rows =
    ap (overlaid_edges bits rows) (c.if-is_empty.ensures refl) ∙ c.overlays_are_lawful.ensures.neutral bits rows in
    subst (λ edges. IsUsedUp c.args.search.now.limits edges c.args.request.now c.args.search.now.budget) (sym same)
    (used_reordered c.args.search.now.limits (point_edges c.args.view.now) (edges_of bits rows) c.args.request.now c.args.search.now.budget
    (c.shows_the_edges.ensures.once rows c.requires.beside) (rw c.in_ok-request.ensures.same at (c.found.ensures.used_up cut)))

pub returns-clause-used_up : goal.returns-clause-used_up
returns-clause-used_up c = λ cut.
    used_reordered c.args.search.now.limits (point_edges c.in_ok-over.over)
    (overlaid_edges c.args.view.now.known c.args.map.now c.args.overlay.now) c.args.request.now c.args.search.now.budget
    (c.in_ok-over.ensures.edges c.args.map.now c.rows_are_lawful.ensures.ended c.requires.beside)
    (rw c.in_ok-request.ensures.same at (c.found-2.ensures.used_up cut))
