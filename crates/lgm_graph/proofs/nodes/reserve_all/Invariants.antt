use Rattle.std.proofs.Common.{◌≡◌, map}
use Rattle.lgm_graph.specs.inner.Sound.{node_in}
use Rattle.lgm_graph.proofs.nodes.reserve_all.Given as goal

abbrev pub invariant-loop-number : goal.invariant-loop-number
invariant-loop-number l = map node_in l.nodes.items ≡ map node_in l.initial.nodes.items
