-- Maps at positions of one history: what a map has after so many operations.
use Rattle.std.specs.Prelude.{◌≡◌, ℕ, ◌+◌, ◌-◌, ◌^◌, ◌<◌, ◌≤◌, min, List, Option, length, take, drop, IfSome, IsSome}
use Rattle.lgm_store.specs.declared.op.Op.{Op}
use Rattle.lgm_store.specs.Rows.{Rows}
use Rattle.lgm_store.specs.History.{absorbed, fold_from}
use Rattle.lgm_graph.specs.Network.{NetworkState, most_points}

-- a map with the known feature bits of nodes, and how many operations it has accepted: its position
pub record Moment : Type 0 where
  pub known : Option (List ℕ)
  pub rows : Rows
  pub at : ℕ

-- the moment of a network at a position
abbrev pub moment : NetworkState → ℕ → Moment
moment network position = record { known = network.known; rows = network.rows; at = position }

-- the position behind this one; there is none behind the greatest number of 64 bits
abbrev pub next_position : ℕ → ℕ
next_position position = min (position + 1) (2 ^ 64 - 1)

-- one operation later
abbrev pub behind : Moment → Op → Moment
behind now op = record { known = now.known; rows = absorbed now.rows op; at = next_position now.at }

-- the operations from a position on, and for how many more there is room
pub record Log : Type 0 where
  pub base : ℕ
  pub ops : List Op
  pub spare : ℕ

-- the position behind the last operation
abbrev pub end : Log → ℕ
end log = log.base + length log.ops

-- the operations from one position to another
abbrev pub between : Log → ℕ → ℕ → List Op
between log from to = take (to - from) (drop (from - log.base) log.ops)

-- those from a position on
abbrev pub since : Log → ℕ → List Op
since log position = drop (position - log.base) log.ops

-- the rows at a later position than that of a moment
abbrev pub rows_at : Log → Moment → ℕ → Rows
rows_at log now position = fold_from now.rows (between log now.at position)

-- all operations behind a position are there; not behind the last position, since the count of operations stops there
abbrev pub LeadsFrom : Log → ℕ → Type 0
LeadsFrom log position = (log.base ≤ position) × (position < 2 ^ 64 - 1)

-- a moment is none behind the newest one, and the operations lead from it to that one, while they are all there
pub record Follows (log : Log) (newest now : Moment) : Type 0 where
  pub known : now.known ≡ newest.known
  pub within : now.at ≤ newest.at
  pub leads : LeadsFrom log now.at → rows_at log now newest.at ≡ newest.rows

-- a log without its first operations
pub record IsTrimmed (old new : Log) : Type 0 where
  pub from : old.base ≤ new.base
  pub within : new.base ≤ end old
  pub ops : new.ops ≡ drop (new.base - old.base) old.ops

-- how many operations are kept at most for a map with these rows
abbrev pub most_kept : Rows → ℕ
most_kept rows = length rows.channels + 1024

-- a network has its view, which numbers no more points than one of these rows may
pub record HasView (network : NetworkState) : Type 0 where
  pub there : IsSome network.graph
  pub fits : IfSome network.graph (λ graph. length graph.points ≤ most_points network.rows)

-- it has its view, unless it has too many channels
abbrev pub IsReady : NetworkState → Type 0
IsReady network = length network.rows.channels ≤ 2000000000 → HasView network
