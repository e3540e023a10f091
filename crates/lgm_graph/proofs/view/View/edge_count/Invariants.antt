use Rattle.std.proofs.Common.{◌≡◌, ℕ, ◌+◌, length}
use Rattle.std.specs.Prelude.{min}
use Rattle.lgm_graph.specs.Graph.{edges}
use Rattle.lgm_graph.proofs.Counted.{edges_from}
use Rattle.lgm_graph.proofs.view.View.edge_count.Given as goal

abbrev pub invariant-loop-number : goal.invariant-loop-number
invariant-loop-number l =
    (before : ℕ) × (length (edges l.self) ≡ before + length (edges_from l.self l.number))
    × (l.count ≡ min before 18446744073709551615)
