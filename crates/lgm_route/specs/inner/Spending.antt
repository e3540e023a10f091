-- The steps that a search may spend, by the labels that it made.
use Rattle.std.specs.Prelude.{◌≡◌, ℕ, zero, suc, ◌+◌, ◌*◌, ◌-◌, ◌^◌, ◌<◌, ◌≤◌, Bool, ◌==◌, nat_lt, List, ◌++◌, length, slice_index_or, false, if◌then◌else◌}
use Rattle.lgm_graph.specs.Graph.{Graph, edges_into}
use Rattle.lgm_graph.specs.declared.edge.Edge.{Edge}
use Rattle.lgm_route.specs.declared.label.Label.{Label}
use Rattle.lgm_route.specs.declared.limits.SearchBudget.{SearchBudget}
use Rattle.lgm_route.specs.declared.halt.Halt.{Halt}
use Rattle.lgm_route.specs.declared.halt.Halt.TheVariants.{NoMemory, Labels, Steps}
use Rattle.lgm_route.specs.inner.Searching.{label_at, edge_at}

-- the sum of a function of the numbers below this one
abbrev pub total : (ℕ → ℕ) → ℕ → ℕ
total f zero = 0
total f (suc n) = total f n + f n

-- the number if this holds, else 0
abbrev pub when : Bool → ℕ → ℕ
when holds number = if holds then number else 0

-- of the first so many labels those at a node
abbrev pub first_labels_of : List Label → ℕ → ℕ → ℕ
first_labels_of labels node n = total (λ i. when ((label_at labels i).node == node) 1) n

-- the number of labels of a node
unfoldable pub labels_of : List Label → ℕ → ℕ
labels_of labels node = first_labels_of labels node (length labels)

-- what it takes to relax over an edge: it is looked at, and what it leads to compared with the labels of that node
abbrev pub look_over : List Label → Edge → ℕ
look_over labels edge = 1 + labels_of labels edge.from

-- over all edges into the node of the label at an index
unfoldable pub looks_from : Graph → List Label → ℕ → ℕ
looks_from graph labels i =
    let into = edges_into graph (label_at labels i).node in
    total (λ j. look_over labels (edge_at into j)) (length into)

-- what it takes to compare the label at an index with those of its node
abbrev pub compares_of : List Label → ℕ → ℕ
compares_of labels i = labels_of labels (label_at labels i).node

-- what may be spent on the label at an index: a dive may pass it, if it is one of the first so many; two may start there, if it
-- is one of the first so many; and once it is settled it was compared and relaxed
abbrev pub charge : Graph → List Label → ℕ → ℕ → (ℕ → Bool) → ℕ → ℕ
charge graph labels passed dived done i =
    let looks = looks_from graph labels i in
    when (nat_lt i passed) looks + when (nat_lt i dived) (2 * looks) + when (done i) (looks + compares_of labels i)

-- whether the label at an index is marked
abbrev pub is_marked : List Bool → ℕ → Bool
is_marked done i = slice_index_or done i false

-- on all labels
unfoldable pub allowed : Graph → List Label → ℕ → ℕ → List Bool → ℕ
allowed graph labels passed dived done = total (charge graph labels passed dived (is_marked done)) (length labels)

-- the most that may be spent on these labels
unfoldable pub most_allowed : Graph → List Label → ℕ
most_allowed graph labels = total (λ i. 4 * looks_from graph labels i + compares_of labels i) (length labels)

-- labels were added
pub record HasMore (labels after : List Label) : Type 0 where
  pub more : List Label
  pub is : after ≡ labels ++ more

-- no label can be added: memory was refused, or there are as many as there may be
abbrev pub IsRefused : SearchBudget → List Label → Halt → Type 0
IsRefused budget labels NoMemory = Unit {0}
IsRefused budget labels Labels = (budget.most_labels ≤ length labels) × (budget.most_labels < 2 ^ 64 - 1)
IsRefused budget labels Steps = ⊥
