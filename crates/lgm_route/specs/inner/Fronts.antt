-- The front of each node: labels of the node, such that each label's rest is dominated by that of one of them.
use Rattle.std.specs.Prelude.{◌≡◌, ◌≢◌, ◌⊎◌, ℕ, zero, suc, ◌+◌, ◌-◌, ◌^◌, ◌<◌, ◌≤◌, List, [], ◌∷◌, ◌++◌, length, slice_index_or}
use Rattle.lgm_graph.specs.Graph.{Graph}
use Rattle.lgm_graph.specs.declared.edge.Edge.{Edge}
use Rattle.lgm_route.specs.inner.Numbered.{Ask}
use Rattle.lgm_route.specs.declared.label.Label.{Label}
use Rattle.lgm_route.specs.inner.Searching.{Dominates, label_at, IsLabel, SomeRest}

-- the index of the first label in each node's front, and of the one after each index. An index that is no label of the
-- node ends its front
pub record Fronts : Type 0 where
  pub first : List ℕ
  pub following : List ℕ

-- initially that of the label at the payee
abbrev pub first_in : List ℕ → ℕ → ℕ
first_in first node = slice_index_or first node 0

abbrev pub next_in : List ℕ → ℕ → ℕ
next_in following place = slice_index_or following place (2 ^ 32 - 1)

-- the label at the index represents a rest that dominates this one
pub record DominatesAt (graph : Graph) (request : Ask) (labels : List Label) (place : ℕ) (rest : List Edge) : Type 0 where
  pub other : List Edge
  pub is : IsLabel graph request labels (label_at labels place) other
  pub dominates : Dominates request other rest

-- in a front from an index on, one of the first so many labels dominates the rest
abbrev pub IsCovered : Graph → Ask → List Label → List ℕ → ℕ → ℕ → ℕ → List Edge → Type 0
IsCovered graph request labels following node zero place rest = ⊥
IsCovered graph request labels following node (suc more) place rest =
    (place < length labels) × ((label_at labels place).node ≡ node)
    × (DominatesAt graph request labels place rest
    ⊎ IsCovered graph request labels following node more (next_in following place) rest)

-- in the front of a node, some label dominates the rest
abbrev pub IsCoveredAt : Graph → Ask → List Label → Fronts → ℕ → List Edge → Type 0
IsCoveredAt graph request labels fronts node rest =
    IsCovered graph request labels fronts.following node (length labels) (first_in fronts.first node) rest

-- in the front of its node, some label dominates the one at the index
pub record IsServed (graph : Graph) (request : Ask) (labels : List Label) (fronts : Fronts) (i : ℕ) : Type 0 where
  pub rest : List Edge
  pub is : IsLabel graph request labels (label_at labels i) rest
  pub covered : IsCoveredAt graph request labels fronts (label_at labels i).node rest

-- the index is below this one, or ends a front
abbrev pub IsBelow : ℕ → ℕ → Type 0
IsBelow place i = (place < i) ⊎ (place ≡ 2 ^ 32 - 1)

-- behind each of the first so many indices in a front is one below it
abbrev pub FallsWithin : List ℕ → ℕ → Type 0
FallsWithin following count = (i : ℕ) → i < count → IsBelow (next_in following i) i

-- so no index is in a front twice
pub record AreFalling (fronts : Fronts) (count : ℕ) : Type 0 where
  pub first : (node : ℕ) → first_in fronts.first node < count
  pub following : FallsWithin fronts.following count

pub record AreFronts (graph : Graph) (request : Ask) (labels : List Label) (fronts : Fronts) : Type 0 where
  pub long : length labels ≤ length fronts.following
  pub falling : AreFalling fronts (length labels)
  pub served : (i : ℕ) → i < length labels → IsServed graph request labels fronts i

-- fronts store indices of 32 bits
abbrev pub HaveFronts : Graph → Ask → List Label → Fronts → Type 0
HaveFronts graph request labels fronts = length labels ≤ 2 ^ 32 → AreFronts graph request labels fronts

-- each node's front begins at the first label
pub record AreNewFronts (fronts : Fronts) : Type 0 where
  pub first : (node : ℕ) → first_in fronts.first node ≡ 0
  pub following : next_in fronts.following 0 ≡ 2 ^ 32 - 1
  pub long : 1 ≤ length fronts.following

-- the same fronts
pub record AreSameFronts (fronts after : Fronts) : Type 0 where
  pub first : (node : ℕ) → first_in after.first node ≡ first_in fronts.first node
  pub following : (i : ℕ) → next_in after.following i ≡ next_in fronts.following i
  pub long : length fronts.following ≤ length after.following

-- no label in the front of its node dominates this one
abbrev pub IsUndominated : Graph → List Label → Fronts → Label → Type 0
IsUndominated graph labels fronts label =
    (request : Ask) (rest : List Edge) → IsLabel graph request labels label rest
    → IsCoveredAt graph request labels fronts label.node rest → ⊥

-- a new label is in front of those of its node, without some that it dominates
pub record IsLinked (graph : Graph) (labels : List Label) (new : Label) (start : ℕ) (following after : List ℕ) : Type 0 where
  pub others : (i : ℕ) → i < length labels → (label_at labels i).node ≢ new.node → next_in after i ≡ next_in following i
  pub covered : (request : Ask) (rest : List Edge) → SomeRest graph request labels new
      → IsCovered graph request labels following new.node (length labels) start rest
      → IsCovered graph request (labels ++ new ∷ []) after new.node (length labels + 1) (length labels) rest
  pub falling : length labels < 2 ^ 32 → FallsWithin following (length labels) → IsBelow start (length labels)
      → FallsWithin after (length labels + 1)

-- fronts remain fronts with a new label
abbrev pub IsAdded : Graph → List Label → Label → Fronts → Fronts → Type 0
IsAdded graph labels new fronts after =
    (request : Ask) → SomeRest graph request labels new → AreFronts graph request labels fronts
    → AreFronts graph request (labels ++ new ∷ []) after

-- no two labels represent one rest, as far as there are fronts
abbrev pub AreDistinct : Graph → Ask → List Label → Type 0
AreDistinct graph request labels =
    (i j : ℕ) (rest : List Edge) → i < j → j < length labels → j < 2 ^ 32
    → IsLabel graph request labels (label_at labels i) rest → IsLabel graph request labels (label_at labels j) rest → ⊥
