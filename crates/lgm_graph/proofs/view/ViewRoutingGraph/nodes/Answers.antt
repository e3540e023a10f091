use Rattle.std.proofs.Common.{subst}
use Rattle.lgm_graph.specs.Graph.{AreListed}
use Rattle.lgm_graph.proofs.NodeListLaws.{are_listed}
use Rattle.lgm_graph.proofs.view.Opened.{graph_of, opened}
use Rattle.lgm_graph.proofs.view.ViewRoutingGraph.nodes.Goals as goal

pub returns-clause-listed : goal.returns-clause-listed
returns-clause-listed c =
    let parts = opened c.deref.ensures c.self.invariant c.self.view_is in
    subst AreListed parts.seen (are_listed (graph_of c.deref.result.now) c.len.ensures.unique parts.sound)
