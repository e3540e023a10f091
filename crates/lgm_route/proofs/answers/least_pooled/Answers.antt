use Rattle.lgm_graph.specs.Graph.{point_edges}
use Rattle.lgm_route.proofs.FoundRoutes.{plain_found}
use Rattle.lgm_route.proofs.answers.least_pooled.Goals as goal

pub returns-clause-answer : goal.returns-clause-answer
returns-clause-answer g c =
    rw c.certain.ensures (rw c.in_ok-lawful.ensures.same at (plain_found (point_edges c.args.view.now) c.in_ok-lawful.field-0
    c.found_pooled.result c.found_pooled.ensures.answer c.found_pooled.ensures.sure))
