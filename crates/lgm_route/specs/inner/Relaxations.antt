-- Relaxation of labels over edges: computed by workers, applied by one thread.
use Rattle.std.specs.Prelude.{◌≡◌, ◌≢◌, ◌⊎◌, ℕ, ◌+◌, ◌^◌, ◌<◌, ◌≤◌, List, []}
use Rattle.std.specs.Prelude.{◌∷◌, length, Contains, Option, Some, None}
use Rattle.lgm_graph.specs.Fee.{fee_of}
use Rattle.lgm_graph.specs.Graph.{Graph, edges, edges_into}
use Rattle.lgm_graph.specs.declared.edge.Edge.{Edge}
use Rattle.lgm_route.specs.inner.Numbered.{Ask, penalty_of}
use Rattle.lgm_route.specs.declared.label.Label.{Label}
use Rattle.lgm_route.specs.inner.Numbered.{counted, most_delay}
use Rattle.lgm_route.specs.inner.Searching.{Low, cost, number_at, label_at, edge_at, first_of, Begins, RelaxesOn}

-- the edge is the one at the index among those into the label's node
pub record IsInto (graph : Graph) (labels : List Label) (i at : ℕ) (edge : Edge) : Type 0 where
  pub within : i < length labels
  pub inside : at < length (edges_into graph (label_at labels i).node)
  pub is : edge_at (edges_into graph (label_at labels i).node) at ≡ edge

-- if the edge can carry it, the label needn't be relaxed over it: the edge isn't the payer's, and a longer rest would
-- be too long, or beyond the limit, or is pruned
abbrev pub IsNeedless : Ask → Low → ℕ → Label → Edge → Type 0
IsNeedless request low bound label edge =
    edge.min ≤ request.amount → label.amount ≤ edge.max →
    (edge.from ≢ request.payer) ×
    (label.hops + 1 < request.hops → label.delay + counted request.limit edge + number_at low.delays edge.from ≤ most_delay request.limit →
    (bound ≤ cost (label.amount + fee_of label.amount edge.base edge.millionths
    + (label.penalty + penalty_of request.terms edge label.amount) + number_at low.fees edge.from) (label.hops + 1))
    ⊎ (2 ^ 64 ≤ label.amount + fee_of label.amount edge.base edge.millionths))

-- the label at the index, relaxed over the edge: a walk if that is the payer's, else a longer rest
pub record IsRelaxationOf (graph : Graph) (request : Ask) (labels : List Label) (i : ℕ) (edge : Edge)
    (new : Label) : Type 0 where
  pub within : i < length labels
  pub there : Contains (edges graph) edge
  pub to : edge.to ≡ (label_at labels i).node
  pub above_min : edge.min ≤ request.amount
  pub below_max : (label_at labels i).amount ≤ edge.max
  pub begins : Begins graph labels new
  pub over : first_of graph labels new ≡ edge
  pub parent : new.parent ≡ i
  pub node : new.node ≡ edge.from
  pub hops : new.hops ≡ (label_at labels i).hops + 1
  pub whole : edge.from ≡ request.payer → (new.amount ≡ (label_at labels i).amount) × (new.penalty ≡ (label_at labels i).penalty)
  pub longer : edge.from ≢ request.payer →
      (new.hops < request.hops)
      × (new.amount ≡ (label_at labels i).amount + fee_of (label_at labels i).amount edge.base edge.millionths)
      × (new.penalty ≡ (label_at labels i).penalty + penalty_of request.terms edge (label_at labels i).amount)
      × (new.delay ≡ (label_at labels i).delay + counted request.limit edge)
      × (new.delay ≤ most_delay request.limit)

-- the relaxation of the label at the index over the edge, if it is needed
abbrev pub IsRelaxation : Graph → Ask → Low → ℕ → List Label → ℕ → Edge → Option Label → Type 0
IsRelaxation graph request low bound labels i edge None = IsNeedless request low bound (label_at labels i) edge
IsRelaxation graph request low bound labels i edge (Some new) = IsRelaxationOf graph request labels i edge new

-- a label or none, as a list
abbrev pub in_list : Option Label → List Label
in_list None = []
in_list (Some label) = label ∷ []

-- the relaxation that this label is was applied
abbrev pub IsTaken : Graph → Ask → ℕ → List Label → Label → List Label → Option Label → Type 0
IsTaken graph request upper_bound labels new after now =
    (low : Low) → RelaxesOn graph request low upper_bound labels new.parent after now (first_of graph labels new)

-- one of the labels is a relaxation over the edge
abbrev pub IsAmong : Graph → List Label → List Label → Edge → Type 0
IsAmong graph labels relaxations edge =
    (k : ℕ) × (k < length relaxations) × (first_of graph labels (label_at relaxations k) ≡ edge)

-- all relaxations of the label at the index: over each edge into its node for which that is needed
pub record AreRelaxations (graph : Graph) (request : Ask) (low : Low) (bound : ℕ)
    (labels : List Label) (i : ℕ) (relaxations : List Label) : Type 0 where
  pub led : (k : ℕ) → k < length relaxations
      → IsRelaxationOf graph request labels i (first_of graph labels (label_at relaxations k)) (label_at relaxations k)
  pub each : (j : ℕ) → j < length (edges_into graph (label_at labels i).node) →
      IsNeedless request low bound (label_at labels i)
      (edge_at (edges_into graph (label_at labels i).node) j) ⊎
      IsAmong graph labels relaxations (edge_at (edges_into graph (label_at labels i).node) j)
