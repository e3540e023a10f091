use Rattle.std.proofs.Common.{◌≡◌, length, take}
use Rattle.lgm_wire.specs.declared.point.Point.{Point}
use Rattle.lgm_graph.specs.Graph.{GraphNode}
use Rattle.lgm_graph.specs.inner.Sound.{is_allowed, looked_at, AreNodes}
use Rattle.lgm_graph.proofs.BanLaws.{changed_among}
use Rattle.lgm_graph.proofs.view.apply.apply_ban.Given as goal

-- this many nodes are changed
abbrev pub invariant-loop-node : goal.invariant-loop-node
invariant-loop-node l = record {
  points : l.nodes.points.keys ≡ l.initial.nodes.points.keys;
  long : length l.nodes.nodes.items ≡ length l.initial.nodes.nodes.items;
  nodes : (before : Point → GraphNode) → AreNodes before l.initial.nodes
      → AreNodes (changed_among (looked_at l.known l.map.nodes (is_allowed l.initial.nodes.points.keys l.map.banned))
      (take l.node-index l.node-items) before) l.nodes;
}
