use Rattle.std.proofs.Common.{◌≡◌, [], length, map, take}
use Rattle.lgm_graph.specs.Overlay.{extra_edge}
use Rattle.lgm_graph.specs.inner.Overlaying.{AreApplied, overrides_of}
use Rattle.lgm_graph.proofs.overlay_view.touched_nodes.TouchedNodes.apply_overlay.Given as goal

abbrev pub invariant-loop-node : goal.invariant-loop-node
invariant-loop-node l = record {
  long : length l.self.places ≡ length l.points;
  applied : AreApplied (record { silent = take l.node-index l.node-items; limits = []; leaving = []; entering = [] }) l.points l.self;
}

abbrev pub invariant-loop-limit : goal.invariant-loop-limit
invariant-loop-limit l = record {
  long : length l.self.places ≡ length l.points;
  applied : AreApplied (record { silent = l.overlay.silent; limits = take l.limit-index l.limit-items; leaving = []; entering = [] }) l.points l.self;
}

abbrev pub invariant-loop-extra : goal.invariant-loop-extra
invariant-loop-extra l = record {
  long : length l.self.places ≡ length l.points;
  applied : AreApplied (overrides_of (record l.overlay { extra = map extra_edge (take l.extra-index l.extra-items) })) l.points l.self;
}
