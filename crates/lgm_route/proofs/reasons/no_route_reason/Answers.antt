use Rattle.std.proofs.Common.{◌≡◌, ◌∙◌, refl, sym, ap, subst, List}
use Rattle.std.specs.Prelude.{IfErr, IfOk}
use Rattle.lgm_graph.specs.Edges.{PointEdge, edges_of}
use Rattle.lgm_graph.specs.Graph.{point_edges}
use Rattle.lgm_graph.specs.Overlay.{overlaid_edges}
use Rattle.lgm_route.specs.Reasons.{IsExplained, IsUnexplained}
use Rattle.lgm_route.proofs.ReasonLaws.{found_over, unexplained_over}
use Rattle.lgm_route.proofs.reasons.no_route_reason.Goals as goal

pub returns-then-is_empty-clause-reason : goal.returns-then-is_empty-clause-reason
returns-then-is_empty-clause-reason c =
    let known = c.args.view.now.known in
    let rows = c.args.map.now in
    let same : overlaid_edges known rows c.args.overlay.now ≡ edges_of known rows =
    ap (overlaid_edges known rows) (c.if-is_empty.ensures refl) ∙ c.overlays_are_lawful.ensures.neutral known rows in
    subst (λ (edges : List PointEdge). IfOk c.reason_over.result (λ found. IsExplained found c.args.search.now.limits edges c.args.request.now))
    (sym same)
    (found_over (point_edges c.args.view.now) (edges_of known rows) c.args.request.now c.reason_over.result c.args.search.now.limits
    (c.shows_the_edges.ensures.once rows c.requires.beside) (rw c.in_ok-request.ensures.same at c.reason_over.ensures.reason))

pub returns-clause-reason : goal.returns-clause-reason
returns-clause-reason c =
    found_over (point_edges c.in_ok-over.over) (overlaid_edges c.args.view.now.known c.args.map.now c.args.overlay.now) c.args.request.now
    c.reason_over-2.result c.args.search.now.limits
    (c.in_ok-over.ensures.edges c.args.map.now c.rows_are_lawful.ensures.ended c.requires.beside) (rw c.in_ok-request.ensures.same at c.reason_over-2.ensures.reason)

pub returns-then-is_empty-clause-unknown : goal.returns-then-is_empty-clause-unknown
returns-then-is_empty-clause-unknown c =
    let known = c.args.view.now.known in
    let rows = c.args.map.now in
    let same : overlaid_edges known rows c.args.overlay.now ≡ edges_of known rows =
    ap (overlaid_edges known rows) (c.if-is_empty.ensures refl) ∙ c.overlays_are_lawful.ensures.neutral known rows in
    subst (λ (edges : List PointEdge). IfErr c.reason_over.result (IsUnexplained edges c.args.request.now c.args.search.now.budget)) (sym same)
    (unexplained_over (point_edges c.args.view.now) (edges_of known rows) c.args.request.now c.reason_over.result c.args.search.now.budget
    (c.shows_the_edges.ensures.once rows c.requires.beside) (rw c.in_ok-request.ensures.same at c.reason_over.ensures.unknown))

pub returns-clause-unknown : goal.returns-clause-unknown
returns-clause-unknown c =
    unexplained_over (point_edges c.in_ok-over.over) (overlaid_edges c.args.view.now.known c.args.map.now c.args.overlay.now) c.args.request.now
    c.reason_over-2.result c.args.search.now.budget
    (c.in_ok-over.ensures.edges c.args.map.now c.rows_are_lawful.ensures.ended c.requires.beside)
    (rw c.in_ok-request.ensures.same at c.reason_over-2.ensures.unknown)
