use Rattle.lgm_graph.specs.Edges.{edges_of}
use Rattle.lgm_graph.specs.Graph.{point_edges}
use Rattle.lgm_graph.proofs.ViewEdgeLaws.{are_keyed}
use Rattle.lgm_route.proofs.ChoiceLaws.{answered}
use Rattle.lgm_route.proofs.answers.answer_chunked.Goals as goal

pub returns-clause-answer : goal.returns-clause-answer
returns-clause-answer g c =
    let view = c.args.view.now in
    answered (point_edges view) (edges_of view.known c.args.map.now) c.args.request.now c.least_pooled.result
    (are_keyed view.known c.args.map.now c.rows_are_lawful.ensures.ascend)
    (c.shows_the_edges.ensures.found c.args.map.now c.requires.beside) c.least_pooled.ensures.answer
