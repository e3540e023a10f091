-- A search as one value: its input, and its state.
use Rattle.std.specs.Prelude.{◌≡◌, ℕ, ◌+◌, ◌-◌, ◌^◌, ◌<◌, ◌≤◌, List, length, Option, Bool, true, false, slice_index_or}
use Rattle.lgm_graph.specs.Graph.{Graph, edges, AreListed}
use Rattle.lgm_graph.specs.declared.edge.Edge.{Edge}
use Rattle.lgm_route.specs.inner.Numbered.{Ask}
use Rattle.lgm_route.specs.declared.label.Label.{Label}
use Rattle.lgm_route.specs.declared.limits.SearchBudget.{SearchBudget}
use Rattle.lgm_route.specs.declared.halt.Halt.{Halt}
use Rattle.lgm_route.specs.declared.halt.Halt.TheVariants.{NoMemory, Labels, Steps}
use Rattle.lgm_route.specs.inner.Numbered.{IsUsable}
use Rattle.lgm_route.specs.inner.Bounding.{AreLow}
use Rattle.lgm_route.specs.inner.Searching.{Low, label_at, number_at, cost, bound_of, IsSettled, AreLabels, IsFound, Grows}
use Rattle.lgm_route.specs.inner.Searching.{RelaxesOn, RelaxesAll, AreSettled, IsNoBetter, IsUpperBound}
use Rattle.lgm_route.specs.inner.Fronts.{Fronts, HaveFronts, AreDistinct}
use Rattle.lgm_route.specs.inner.Spending.{HasMore, IsRefused, is_marked, allowed, most_allowed, looks_from}
use Rattle.lgm_route.specs.inner.Relaxations.{IsInto, IsRelaxation, AreRelaxations}

-- the edges, the request, lower bounds from the payer to each node, and an upper bound on the best walk
pub record Ground : Type 0 where
  pub graph : Graph
  pub request : Ask
  pub low : Low
  pub upper_bound : ℕ
  -- what may be spent
  pub budget : SearchBudget

-- the labels, the best walk so far, the fronts, and which labels are settled
pub record SearchState : Type 0 where
  pub ground : Ground
  pub labels : List Label
  pub best : Option Label
  pub fronts : Fronts
  pub done : List Bool
  -- the steps so far: the edges that were looked at, and the labels that were compared
  pub spent : ℕ
  -- dives started at none but the first so many labels
  pub dived : ℕ

abbrev pub state_of : Graph → Ask → Low → ℕ → SearchBudget → List Label → Option Label → Fronts → List Bool → ℕ → ℕ → SearchState
state_of graph request low upper_bound budget labels best fronts done spent dived = record {
  ground = record { graph = graph; request = request; low = low; upper_bound = upper_bound; budget = budget };
  labels = labels;
  best = best;
  fronts = fronts;
  done = done;
  spent = spent;
  dived = dived;
}

pub record IsGround (ground : Ground) : Type 0 where
  pub hops : (1 ≤ ground.request.hops) × (ground.request.hops ≤ 20)
  pub listed : AreListed ground.graph
  pub long : length ground.low.fees ≡ length ground.graph.points
  pub low : AreLow (edges ground.graph) ground.request ground.low
  pub small : ground.upper_bound ≤ 2 ^ 65
  pub upper_bound : IsUpperBound (edges ground.graph) ground.request ground.upper_bound

-- labels represent different rests, the best walk is one, and marked labels are settled
pub record IsSearch (state : SearchState) : Type 0 where
  pub ground : IsGround state.ground
  pub labelled : AreLabels state.ground.graph state.ground.request state.labels
  pub found : IsFound state.ground.graph state.ground.request state.labels state.ground.upper_bound state.best
  pub settled : AreSettled state.ground.graph state.ground.request state.ground.low state.ground.upper_bound
      state.labels state.best state.done
  pub fronts : HaveFronts state.ground.graph state.ground.request state.labels state.fronts
  pub distinct : AreDistinct state.ground.graph state.ground.request state.labels

-- the same search later: labels were added, the best walk is no worse, and what was marked still is
pub record Extends (before after : SearchState) : Type 0 where
  pub ground : after.ground ≡ before.ground
  pub grows : Grows before.ground.graph before.ground.request before.ground.upper_bound before.labels before.best
      after.labels after.best
  pub still : (i : ℕ) → slice_index_or before.done i false ≡ true → slice_index_or after.done i false ≡ true

-- the same search, perhaps in the middle of a relaxation: labels were added
pub record Adds (before after : SearchState) : Type 0 where
  pub ground : after.ground ≡ before.ground
  pub more : HasMore before.labels after.labels
  pub still : (i : ℕ) → is_marked before.done i ≡ true → is_marked after.done i ≡ true
  pub dived : after.dived ≡ before.dived

-- the steps so far are those of labels that were settled, and of dives. Only the first 2^32 labels are in fronts
pub record IsPaid (state : SearchState) : Type 0 where
  pub few : length state.labels < 2 ^ 32
      → state.spent ≤ allowed state.ground.graph state.labels (length state.labels) state.dived state.done

-- a search stops: memory was refused, or there are as many labels as there may be, or it took more steps than it may
abbrev pub HasReached : SearchState → Halt → Type 0
HasReached state NoMemory = Unit {0}
HasReached state Labels = IsRefused state.ground.budget state.labels Labels
HasReached state Steps = (state.ground.budget.most_steps < state.spent) × (state.ground.budget.most_steps < 2 ^ 64 - 1)

-- and the steps are no more than its labels take
abbrev pub MayHalt : SearchState → Halt → Type 0
MayHalt state NoMemory = Unit {0}
MayHalt state Labels = HasReached state Labels
MayHalt state Steps =
    HasReached state Steps
    × (length state.labels < 2 ^ 32 → state.spent ≤ most_allowed state.ground.graph state.labels)

-- the same search, which stopped in the middle of a relaxation
pub record IsStopped (before after : SearchState) (halt : Halt) : Type 0 where
  pub ground : after.ground ≡ before.ground
  pub reached : HasReached after halt

-- the same search, which stopped
pub record IsHalted (before after : SearchState) (halt : Halt) : Type 0 where
  pub ground : after.ground ≡ before.ground
  pub may : IsPaid before → MayHalt after halt

-- the bound that a better walk is below
abbrev pub bound_in : SearchState → ℕ
bound_in state = bound_of state.ground.upper_bound state.best

-- no walk over a label is better than the best so far, by the lower bound on its cost
abbrev pub IsPruned : SearchState → ℕ → Type 0
IsPruned state i =
    let label = label_at state.labels i in
    bound_in state ≤ cost (label.amount + label.penalty + number_at state.ground.low.fees label.node) label.hops

-- the label at the index is settled
abbrev pub IsSettledAt : SearchState → ℕ → Type 0
IsSettledAt state i =
    IsSettled state.ground.graph state.ground.request state.ground.low state.ground.upper_bound state.labels
    state.best (label_at state.labels i)

-- and marked as settled
abbrev pub IsMarkedAt : SearchState → ℕ → Type 0
IsMarkedAt state i = slice_index_or state.done i false ≡ true

-- the edge is the one at the index among those into the label's node
abbrev pub IsIntoAt : SearchState → ℕ → ℕ → Edge → Type 0
IsIntoAt state i at edge = IsInto state.ground.graph state.labels i at edge

-- the relaxation of the label at the index over the edge, if it is needed
abbrev pub IsRelaxationAt : SearchState → ℕ → Edge → Option Label → Type 0
IsRelaxationAt state i edge relaxation =
    IsRelaxation state.ground.graph state.ground.request state.ground.low (bound_in state) state.labels i edge relaxation

-- all its relaxations
abbrev pub AreRelaxationsAt : SearchState → ℕ → List Label → Type 0
AreRelaxationsAt state i relaxations =
    AreRelaxations state.ground.graph state.ground.request state.ground.low (bound_in state) state.labels i relaxations

-- the label was relaxed over the edge, if that can carry it
abbrev pub IsRelaxedOn : SearchState → ℕ → Edge → SearchState → Type 0
IsRelaxedOn before i edge after =
    RelaxesOn before.ground.graph before.ground.request before.ground.low before.ground.upper_bound before.labels i
    after.labels after.best edge

-- no usable walk is better than the best
abbrev pub IsFinished : SearchState → Type 0
IsFinished state =
    (walk : List Edge) → IsUsable (edges state.ground.graph) state.ground.request walk →
    IsNoBetter state.ground.graph state.ground.request state.labels state.ground.upper_bound state.best walk

-- the label was relaxed over all edges into its node
abbrev pub IsLeftAt : SearchState → ℕ → SearchState → Type 0
IsLeftAt before i after =
    RelaxesAll before.ground.graph before.ground.request before.ground.low before.ground.upper_bound before.labels i
    after.labels after.best

-- what a dive from a label takes beside what dives that pass labels do
abbrev pub IsDiveFrom : ℕ → SearchState → SearchState → Type 0
IsDiveFrom i before after =
    (dived more : ℕ) → length after.labels < 2 ^ 32
    → before.spent ≤ allowed before.ground.graph before.labels (length before.labels) dived before.done + more
    → after.spent ≤ allowed before.ground.graph after.labels (length after.labels) dived after.done + more
    + looks_from before.ground.graph after.labels i

-- a new search over the graph for the request
pub record IsBegun (graph : Graph) (request : Ask) (budget : SearchBudget) (state : SearchState) : Type 0 where
  pub graph_is : state.ground.graph ≡ graph
  pub request_is : state.ground.request ≡ request
  pub budget_is : state.ground.budget ≡ budget
  pub paid : IsPaid state
  pub upper_bound : IsUpperBound (edges state.ground.graph) state.ground.request state.ground.upper_bound
