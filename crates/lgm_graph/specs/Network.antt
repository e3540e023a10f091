-- A map with its view, while there is one.
use Rattle.std.specs.Prelude.{◌≡◌, ℕ, ◌+◌, ◌*◌, ◌<◌, ◌≤◌, List, Option, Some, None, length, min, IfSome}
use Rattle.lgm_store.specs.Rows.{Rows}
use Rattle.lgm_graph.specs.Graph.{Graph, IsGraphOf}

pub record NetworkState : Type 0 where
  -- the known feature bits of nodes, or none if all are known
  pub known : Option (List ℕ)
  pub rows : Rows
  -- the graph of the view, if there is one
  pub graph : Option Graph

-- the graph is that of the rows, for a payer who knows these feature bits
pub record IsViewOf (known : Option (List ℕ)) (rows : Rows) (graph : Graph) : Type 0 where
  pub known_is : graph.known ≡ known
  pub graph_is : IsGraphOf rows graph

-- and so is the graph of the view, if there is one
abbrev pub IsViewed : Option (List ℕ) → Rows → Option Graph → Type 0
IsViewed known rows graph = IfSome graph (IsViewOf known rows)

-- how many points the view of these rows may number before another operation: four for each channel, and 1,024 more
abbrev pub most_points : Rows → ℕ
most_points rows = min (4 * length rows.channels + 1024) 4000000000

-- a view numbers two more points at most, or it is dropped if it numbers too many for the rows
abbrev pub GoesOn : Rows → Option Graph → Option Graph → Type 0
GoesOn rows None graph = graph ≡ None
GoesOn rows (Some old) None = most_points rows < length old.points
GoesOn rows (Some old) (Some new) = (length old.points ≤ most_points rows) × (length new.points ≤ length old.points + 2)

-- a view that numbers few enough points for the rows stays
abbrev pub KeepsView : NetworkState → Option Graph → Type 0
KeepsView old after = IfSome old.graph (λ graph. length graph.points ≤ most_points old.rows → after ≡ old.graph)
