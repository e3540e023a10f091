-- The contents of a snapshot.
use Rattle.std.specs.Prelude.{ℕ, ◌≤◌, List, Option, Some, None, length, IsSome}
use Rattle.lgm_store.specs.Rows.{Rows}
use Rattle.lgm_graph.specs.Network.{NetworkState}
use Rattle.lgm_board.specs.Limits.{most_operations}
use Rattle.lgm_board.specs.Handles.{History, Sight}

-- the rows of a map, and what made them
pub record Contents : Type 0 where
  pub rows : Rows
  -- the known feature bits of its view
  pub known : Option (List ℕ)
  -- the number of operations applied
  pub absorbed : ℕ
  -- the list of operations reached
  pub told : History

-- a list that was observed with these known bits
abbrev pub sight : Option (List ℕ) → History → Sight
sight known told = record { board = told.board; known = known; ops = told.ops }

-- the known bits of a snapshot that was observed
abbrev pub known_in : Option Contents → Option (List ℕ)
known_in (Some contents) = contents.known
known_in None = None

-- there is a view, and there are no more channels than operations that were applied, within the limit
pub record IsShown (network : NetworkState) (absorbed : ℕ) : Type 0 where
  pub viewed : IsSome network.graph
  pub few : length network.rows.channels ≤ absorbed
  pub limited : absorbed ≤ most_operations
