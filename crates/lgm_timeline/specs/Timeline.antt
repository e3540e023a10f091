-- A map that goes on, as its owner sees it.
use Rattle.std.specs.Prelude.{◌≡◌, ◌⊎◌, ℕ, Bool, Option, Result, Ok, Err}
use Rattle.lgm_check.specs.declared.refusal.Refusal.{Refusal}
use Rattle.lgm_check.specs.declared.refusal.Refusal.TheVariants as refusals
use Rattle.lgm_store.specs.declared.op.Op.{Op}
use Rattle.lgm_store.specs.Rows.{Rows}
use Rattle.lgm_graph.specs.Graph.{Graph}
use Rattle.lgm_graph.specs.Network.{NetworkState}
use Rattle.lgm_timeline.specs.History.{Moment, moment, behind}

pub record TimelineState : Type 0 where
  -- the newest network
  pub network : NetworkState
  -- how many operations it has accepted
  pub version : ℕ
  -- the rows at the mark
  pub marked : Rows
  -- whether the network that stays at the mark has come there, and the graph of its view, if there is one
  pub is_reached : Bool
  pub graph_at_mark : Option Graph
  -- how many operations are kept
  pub kept : ℕ

abbrev pub newest : TimelineState → Moment
newest timeline = moment timeline.network timeline.version

-- an accepted operation was applied
pub record Advances (admission : Result Op Refusal) (old new : Moment) : Type 0 where
  pub op : Op
  pub accepts : admission ≡ Ok op
  pub becomes : new ≡ behind old op

-- why nothing was applied: the refusal, or memory ran out where there is none
abbrev pub RefusesFirst : Result Op Refusal → Refusal → Type 0
RefusesFirst admission refusal =
    ((op : Op) × (admission ≡ Ok op) × (refusal ≡ refusals.NoMemory)) ⊎ (admission ≡ Err refusal)

-- the same, where memory may run out before it is found
abbrev pub RefusesOrRunsOut : Result Op Refusal → Refusal → Type 0
RefusesOrRunsOut admission refusal = (refusal ≡ refusals.NoMemory) ⊎ (admission ≡ Err refusal)
