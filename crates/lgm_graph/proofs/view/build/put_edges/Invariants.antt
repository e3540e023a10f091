use Rattle.std.proofs.Common.{◌≡◌, Bool, List, [], length, take}
use Rattle.lgm_wire.specs.declared.point.Point.{Point}
use Rattle.lgm_graph.specs.Edges.{PointEdge}
use Rattle.lgm_graph.specs.inner.Sound.{ShowsIn}
use Rattle.lgm_graph.specs.inner.Walk.{AreEdgesOf}
use Rattle.lgm_graph.proofs.view.build.put_edges.Given as goal

abbrev pub invariant-loop-edge : goal.invariant-loop-edge
invariant-loop-edge l = record {
  points : l.nodes.points.keys ≡ l.fn.nodes.points.keys;
  long : length l.nodes.nodes.items ≡ length l.nodes.points.keys;
  shows : (accepts : Point → Bool) → ShowsIn accepts [] l.fn.nodes
      → (point_edges : List PointEdge) → AreEdgesOf point_edges l.fn.nodes.points.keys l.edges → ShowsIn accepts (take l.edge-index point_edges) l.nodes;
}
