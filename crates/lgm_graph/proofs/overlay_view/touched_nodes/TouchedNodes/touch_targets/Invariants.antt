use Rattle.lgm_graph.specs.inner.Overlaying.{IsTouchedMore, AreReached}
use Rattle.lgm_graph.proofs.overlay_view.touched_nodes.TouchedNodes.touch_targets.Given as goal

abbrev pub invariant-loop-k : goal.invariant-loop-k
invariant-loop-k l = record {
  more : IsTouchedMore l.fn.self l.self;
  reached : AreReached l.view l.self l.k;
}
