use Rattle.std.proofs.Common.{take}
use Rattle.std.specs.List.{AllByRecursion}
use Rattle.lgm_graph.specs.inner.Overlaying.{IsTouchedMore, LeadsTo}
use Rattle.lgm_graph.proofs.overlay_view.touched_nodes.TouchedNodes.touch_targets_of.Given as goal

abbrev pub invariant-loop-edge : goal.invariant-loop-edge
invariant-loop-edge l = record {
  more : IsTouchedMore l.fn.self l.self;
  leading : AllByRecursion (LeadsTo l.self) (take l.edge-index l.edge-items);
}
