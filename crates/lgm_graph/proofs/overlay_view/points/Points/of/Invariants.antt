use Rattle.std.proofs.Common.{◌≡◌, ◌+◌, ◌*◌, ◌≤◌, List, ◌++◌, length, map, take}
use Rattle.std.specs.List.{AllByRecursion}
use Rattle.lgm_wire.specs.declared.point.Point.{Point}
use Rattle.lgm_graph.specs.Graph.{IsJoined}
use Rattle.lgm_graph.specs.Overlay.{extra_edge}
use Rattle.lgm_graph.proofs.overlay_view.points.Points.of.Given as goal

abbrev pub invariant-loop-edge : goal.invariant-loop-edge
invariant-loop-edge l = record {
  few : length l.points ≤ length l.view.points + 2 * l.edge-index;
  further : (added : List Point) × (l.points ≡ l.view.points ++ added);
  joined : AllByRecursion (IsJoined l.points) (map extra_edge (take l.edge-index l.extra));
}
