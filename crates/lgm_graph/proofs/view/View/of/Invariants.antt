use Rattle.lgm_graph.specs.inner.Sound.{graph_in}
use Rattle.lgm_graph.specs.inner.Walk.{HasWalked}
use Rattle.lgm_graph.proofs.view.View.of.Given as goal

abbrev pub invariant-loop-stored : goal.invariant-loop-stored
invariant-loop-stored l = HasWalked l.map l.stored-iterator l.edges.items (graph_in l.known l.nodes)
