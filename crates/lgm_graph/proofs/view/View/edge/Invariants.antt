use Rattle.std.proofs.Common.{◌≡◌}
use Rattle.std.specs.List.{slice_get}
use Rattle.lgm_graph.specs.Graph.{edges}
use Rattle.lgm_graph.proofs.Counted.{edges_from}
use Rattle.lgm_graph.proofs.view.View.edge.Given as goal

abbrev pub invariant-loop-number : goal.invariant-loop-number
invariant-loop-number l = slice_get (edges l.self) l.place ≡ slice_get (edges_from l.self l.number) l.left
