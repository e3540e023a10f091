use Rattle.std.proofs.Common.{◌≡◌, map, take}
use Rattle.lgm_graph.specs.Graph.{node_at}
use Rattle.lgm_graph.specs.inner.Overlaying.{edges_in, overlaid_list}
use Rattle.lgm_graph.proofs.overlay_view.lists.lists_out.Given as goal

abbrev pub invariant-loop-node : goal.invariant-loop-node
invariant-loop-node l = map edges_in l.lists.items
    ≡ map (λ local. overlaid_list l.touched (node_at l.view local.node).out local.leaving) (take l.node-index (take l.count l.touched.nodes))
