use Rattle.std.proofs.Common.{◌≡◌, ◌++◌, take}
use Rattle.std.specs.List.{filter_map}
use Rattle.lgm_graph.specs.inner.Overlaying.{overlaid_by}
use Rattle.lgm_graph.proofs.overlay_view.lists.overlaid.Given as goal

abbrev pub invariant-loop-edge : goal.invariant-loop-edge
invariant-loop-edge l = l.edges.items ≡ take l.edge-index l.extra

abbrev pub invariant-loop-edge-2 : goal.invariant-loop-edge-2
invariant-loop-edge-2 l = l.edges.items ≡ l.extra ++ filter_map (overlaid_by l.touched) (take l.edge-index l.list)
