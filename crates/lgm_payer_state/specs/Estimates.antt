-- The bytes of what was learnt of edges.
use Rattle.std.specs.Prelude.{ℕ, List, ◌++◌}
use Rattle.std.specs.Int.{w64}
use Rattle.lgm_graph.specs.declared.estimate.EdgeKey.{EdgeKey}
use Rattle.lgm_graph.specs.declared.estimate.Estimate.{Estimate}
use Rattle.lgm_graph.specs.Estimates.{Entries}
use Rattle.lgm_payer_state.specs.Written.{number_bytes, list_bytes}
use Rattle.lgm_payer_state.specs.Edges.{point_bytes}

-- an edge, by its id and the node that it leaves, and what is believed of it
unfoldable pub entry_bytes : EdgeKey × Estimate → List ℕ
entry_bytes entry =
    number_bytes w64 entry.0.scid ++ point_bytes entry.0.from ++ number_bytes w64 entry.1.least ++ number_bytes w64 entry.1.most
    ++ number_bytes w64 entry.1.penalty

-- how many edges there are, and then each
unfoldable pub learnt_bytes : Entries → List ℕ
learnt_bytes learnt = list_bytes entry_bytes learnt
