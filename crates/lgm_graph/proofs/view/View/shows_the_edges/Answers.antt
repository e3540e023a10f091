use Rattle.lgm_graph.proofs.ViewEdgeLaws.{holds}
use Rattle.lgm_graph.proofs.Once.{once}
use Rattle.lgm_graph.proofs.view.View.shows_the_edges.Goals as goal

pub returns-clause-found : goal.returns-clause-found
returns-clause-found c = λ rows beside edge. holds rows c.args.self.now c.nodes.ensures.listed.unique beside edge

pub returns-clause-once : goal.returns-clause-once
returns-clause-once c = λ rows beside. once rows c.args.self.now c.nodes.ensures.listed.unique beside
