-- The effect of an operation on a map and its numbered nodes.
use Rattle.std.specs.Prelude.{◌≡◌, ◌+◌, ◌≤◌, ℕ, List, length, Option, Result, MatchResult}
use Rattle.lgm_store.specs.Rows.{Rows}
use Rattle.lgm_store.specs.declared.op.Op.{Op}
use Rattle.lgm_store.specs.History.{absorbed}
use Rattle.lgm_graph.specs.declared.nodes.Nodes.{Nodes}
use Rattle.lgm_graph.specs.Graph.{IsGraphOf}
use Rattle.lgm_graph.specs.inner.Sound.{graph_in}

-- the operation is applied to both, so that the nodes show the new map; it numbers at most two points
pub record IsDone (known : Option (List ℕ)) (op : Op) (rows new_rows : Rows)
    (nodes new_nodes : Nodes) : Type 0 where
  pub map : new_rows ≡ absorbed rows op
  pub beside : IsGraphOf new_rows (graph_in known new_nodes)
  pub few : length new_nodes.points.keys ≤ length nodes.points.keys + 2

-- it is applied to neither
pub record IsUndone (rows new_rows : Rows) (nodes new_nodes : Nodes) : Type 0 where
  pub map : new_rows ≡ rows
  pub graph : (known : Option (List ℕ)) → graph_in known new_nodes ≡ graph_in known nodes

-- it is applied to both or, if memory runs out, to neither
abbrev pub IsDoneToBoth : {T E : Type 0} → Option (List ℕ) → Op → Rows → Rows → Nodes → Nodes
    → Result T E → Type 0
IsDoneToBoth known op rows new_rows nodes new_nodes result = MatchResult result
    (λ _. IsDone known op rows new_rows nodes new_nodes) (λ _. IsUndone rows new_rows nodes new_nodes)
