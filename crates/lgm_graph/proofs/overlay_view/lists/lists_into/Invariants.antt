use Rattle.std.proofs.Common.{◌≡◌, [], map, take, get_or}
use Rattle.lgm_graph.specs.inner.Overlaying.{laid_list}
use Rattle.lgm_graph.specs.inner.Sound.{edges_in}
use Rattle.lgm_graph.proofs.overlay_view.lists.lists_into.Given as goal

abbrev pub invariant-loop-node : goal.invariant-loop-node
invariant-loop-node l = map edges_in l.lists.items
    ≡ map (λ said. laid_list l.touched (get_or l.view.into said.node []) said.entering) (take l.node-index l.touched.nodes)
