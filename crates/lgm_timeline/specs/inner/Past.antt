-- What is kept of the past of a map, and what it is for.
use Rattle.std.specs.Prelude.{◌≡◌, ◌⊎◌, ℕ, ◌-◌, ◌^◌, ◌<◌, ◌≤◌, ◌==◌, Bool, true, Option, Some, None, IfSome, IfNone, IsSome, IsSomeAnd, IsTrue, IsFalse}
use Rattle.lgm_store.specs.Rows.{Rows}
use Rattle.lgm_graph.specs.Graph.{Graph}
use Rattle.lgm_graph.specs.Network.{NetworkState}
use Rattle.std.specs.Arc.{arc_value}
use Rattle.lgm_timeline.specs.declared.edition.Edition.{Edition}
use Rattle.lgm_timeline.specs.declared.past.Past.{Past}
use Rattle.lgm_timeline.specs.History.{Moment, moment, Log, end, rows_at, LeadsFrom, Follows, IsReady}
use Rattle.lgm_timeline.specs.Edition.{moment_of}

-- a network has come to a position
abbrev pub IsReached : ℕ → Edition → Type 0
IsReached position edition = edition.at ≡ position

-- a network follows, no further than a mark, and all operations up to the mark are there
pub record IsMarked (log : Log) (newest : Moment) (position : ℕ) (own : Edition) : Type 0 where
  pub follows : Follows log newest (moment_of own)
  pub before : own.at ≤ position
  pub within : position ≤ newest.at
  pub due : LeadsFrom log own.at ⊎ IsReached position own

-- one that is shared follows, with its view
pub record IsShared (log : Log) (newest : Moment) (edition : Edition) : Type 0 where
  pub follows : Follows log newest (moment_of edition)
  pub ready : IsReady edition.network

-- the operations that are kept, and the networks that follow, are of the past of a network; the mark has one of its own, or
-- is the newest one
pub record IsPast (network : NetworkState) (past : Past) : Type 0 where
  pub mark : IfSome past.mark (IsMarked past.log (moment network (end past.log)) past.marked)
  pub at_newest : IfNone past.mark (past.marked ≡ end past.log)
  pub latest : IfSome past.latest (λ edition. IsShared past.log (moment network (end past.log)) (arc_value edition))
  pub older : IfSome past.older (λ edition. IsShared past.log (moment network (end past.log)) (arc_value edition))

-- the past of some network
pub record IsSomePast (past : Past) : Type 0 where
  pub network : NetworkState
  pub is : IsPast network past

-- the rows at the mark
abbrev pub rows_marked_by : NetworkState → Log → ℕ → Option Edition → Rows
rows_marked_by network log position None = network.rows
rows_marked_by network log position (Some own) = rows_at log (moment_of own) position

abbrev pub rows_marked : NetworkState → Past → Rows
rows_marked network past = rows_marked_by network past.log past.marked past.mark

-- whether the mark's network has come there
abbrev pub is_reached_by : ℕ → Option Edition → Bool
is_reached_by position None = true
is_reached_by position (Some own) = own.at == position

-- the graph of its view, if there is one
abbrev pub graph_marked_by : NetworkState → Option Edition → Option Graph
graph_marked_by network None = network.graph
graph_marked_by network (Some own) = own.network.graph

-- a position is at a mark's network or before it, if that needs the next operation: not if it has come to the mark
abbrev pub IsAtLeast : Log → Option ℕ → ℕ → Edition → Type 0
IsAtLeast log slowest position mark = LeadsFrom log mark.at → IsSomeAnd slowest (λ least. least ≤ mark.at) ⊎ IsReached position mark

-- the mark has a network of its own, and there is room for one more operation, if it is to be kept, or the mark doesn't need it
pub record HasRoom (keeps : Bool) (past : Past) : Type 0 where
  pub own : IsSome past.mark
  pub spare : IsTrue keeps → 0 < past.log.spare
  pub last : IsTrue keeps → end past.log < 2 ^ 64 - 1
  pub reached : IsFalse keeps → IfSome past.mark (IsReached past.marked)

-- the past of a network, with the same rows at the mark as in that of an earlier one
pub record GoesOnPast (network next : NetworkState) (old new : Past) : Type 0 where
  pub past : IsPast next new
  pub marked : rows_marked next new ≡ rows_marked network old

-- the past of the same network
pub record StaysPast (network : NetworkState) (old new : Past) : Type 0 where
  pub past : IsPast network new
  pub marked : rows_marked network new ≡ rows_marked network old
  pub at_end : end new.log ≡ end old.log
