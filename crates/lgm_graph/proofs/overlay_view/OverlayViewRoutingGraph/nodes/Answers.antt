use Rattle.std.proofs.Common.{subst, map}
use Rattle.lgm_graph.specs.Graph.{AreListed}
use Rattle.lgm_graph.specs.inner.Overlaying.{edges_in, graph_over}
use Rattle.lgm_graph.proofs.NodeListLaws.{are_listed}
use Rattle.lgm_graph.proofs.overlay_view.OverlayViewRoutingGraph.nodes.Goals as goal

pub returns-clause-listed : goal.returns-clause-listed
returns-clause-listed c =
    let over = c.self.inside in
    subst AreListed c.self.view_is
    (are_listed (graph_over over.view.now over.points over.places.items (map edges_in over.into.items) (map edges_in over.out.items))
    c.len.ensures.distinct c.self.invariant)
