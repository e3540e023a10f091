-- The state of a search: labels, each of which represents the rest of a walk.
use Rattle.std.specs.Prelude.{◌≡◌, ◌⊎◌, ℕ, ◌+◌, ◌*◌, ◌^◌, ◌<◌, ◌≤◌, List, [], ◌∷◌, ◌++◌, length}
use Rattle.std.specs.Prelude.{Contains, Option, Some, None, Bool, true, slice_index_or, false}
use Rattle.std.specs.Ordering.{nat_cmp, is_gt}
use Rattle.std.specs.Cmp.Lexicographic.{slice_cmp}
use Rattle.lgm_graph.specs.Graph.{Graph, edges, edges_into}
use Rattle.lgm_graph.specs.declared.edge.Edge.{Edge}
use Rattle.lgm_route.specs.inner.Numbered.{Ask}
use Rattle.lgm_route.specs.declared.label.Label.{Label}
use Rattle.lgm_route.specs.inner.Numbered.{owed, sent, penalties, weight, worth, ids, delay, walk_delay, most_delay, IsRest, IsUsable}

-- the first list equals the second, or precedes it
abbrev pub NotAfter : List ℕ → List ℕ → Type 0
NotAfter xs ys = is_gt (slice_cmp nat_cmp xs ys) ≡ false

abbrev pub rest_key : Ask → List Edge → List ℕ
rest_key request rest = weight request rest ∷ length rest ∷ ids rest

abbrev pub walk_key : Ask → List Edge → List ℕ
walk_key request walk = worth request walk ∷ length walk ∷ ids walk

-- one rest dominates another: it owes no more, has no more edges and no more delay that counts, and doesn't come after it
-- by weight, number of edges and ids
pub record Dominates (request : Ask) (rest other : List Edge) : Type 0 where
  pub fewer : length rest ≤ length other
  pub sooner : delay request.limit rest ≤ delay request.limit other
  pub cheaper : owed request.amount rest ≤ owed request.amount other
  pub before : NotAfter (rest_key request rest) (rest_key request other)

-- a placeholder if a list has no edge
abbrev pub no_edge : Edge
no_edge =
    record {
      scid = 0;
      max = 0;
      min = 0;
      from = 0;
      to = 0;
      base = 0;
      millionths = 0;
      delta = 0;
      second = false;
    }

abbrev pub edge_at : List Edge → ℕ → Edge
edge_at edges i = slice_index_or edges i no_edge

abbrev pub no_label : Label
no_label = record { amount = 0; penalty = 0; parent = 0; at = 0; node = 0; hops = 0; delay = 0 }

abbrev pub label_at : List Label → ℕ → Label
label_at labels i = slice_index_or labels i no_label

abbrev pub number_at : List ℕ → ℕ → ℕ
number_at numbers i = slice_index_or numbers i 0

-- lower bounds on the fees from the payer to each node, in msat, and on the delays, in blocks that count
pub record Low : Type 0 where
  pub fees : List ℕ
  pub delays : List ℕ

-- the first edge of a label: the one at its index among those into the node of the label after it
abbrev pub first_of : Graph → List Label → Label → Edge
first_of graph labels label = edge_at (edges_into graph (label_at labels label.parent).node) label.at

-- a label has a first edge
pub record Begins (graph : Graph) (labels : List Label) (label : Label) : Type 0 where
  pub parent : label.parent < length labels
  pub at : label.at < length (edges_into graph (label_at labels label.parent).node)

-- the edges of a label: its first one, and those of the label after it
abbrev pub Spells : Graph → List Label → Label → List Edge → Type 0
Spells graph labels label [] = Unit {0}
Spells graph labels label (edge ∷ rest) =
    (first_of graph labels label ≡ edge) × Begins graph labels label
    × Spells graph labels (label_at labels label.parent) rest

-- the rest that a label represents, within the limit
pub record IsLabel (graph : Graph) (request : Ask) (labels : List Label) (label : Label)
    (rest : List Edge) : Type 0 where
  pub spells : Spells graph labels label rest
  pub long : length rest ≡ label.hops
  pub joins : IsRest (edges graph) request label.node rest
  pub owes : owed request.amount rest ≡ label.amount
  pub spends : penalties request.terms request.amount rest ≡ label.penalty
  pub waits : delay request.limit rest ≡ label.delay
  pub in_time : label.delay ≤ most_delay request.limit

-- the walk that a label represents, whose amount is what is sent
pub record IsWalk (graph : Graph) (request : Ask) (labels : List Label) (label : Label)
    (walk : List Edge) : Type 0 where
  pub spells : Spells graph labels label walk
  pub long : length walk ≡ label.hops
  pub some : 1 ≤ label.hops
  pub few : label.hops ≤ request.hops
  pub joins : IsRest (edges graph) request request.payer walk
  pub sends : sent request.amount walk ≡ label.amount
  pub costs : worth request walk ≡ label.amount + label.penalty
  pub in_time : walk_delay request.limit walk ≤ most_delay request.limit

-- a label represents as many edges as its number of hops
abbrev pub IsSpelled : Graph → List Label → Label → Type 0
IsSpelled graph labels label =
    (rest : List Edge) × Spells graph labels label rest × (length rest ≡ label.hops)

-- the ids of one label's edges precede or equal those of another's
abbrev pub IdsFirst : Graph → List Label → Label → Label → Type 0
IdsFirst graph labels label other =
    (rest also : List Edge) → Spells graph labels label rest → Spells graph labels other also →
    length rest ≡ label.hops → length also ≡ other.hops → NotAfter (ids rest) (ids also)

-- they come after those of another's
abbrev pub IdsAfter : Graph → List Label → Label → Label → Type 0
IdsAfter graph labels label other =
    (rest also : List Edge) → Spells graph labels label rest → Spells graph labels other also →
    length rest ≡ label.hops → length also ≡ other.hops → NotAfter (ids rest) (ids also) → ⊥

-- the one label's rest dominates the other's
abbrev pub DoesDominate : Graph → List Label → Label → Label → Type 0
DoesDominate graph labels label other =
    (request : Ask) (rest also : List Edge) →
    IsLabel graph request labels label rest → IsLabel graph request labels other also
    → Dominates request rest also

-- it doesn't
abbrev pub DoesNotDominate : Graph → List Label → Label → Label → Type 0
DoesNotDominate graph labels label other =
    (request : Ask) (rest also : List Edge) →
    IsLabel graph request labels label rest → IsLabel graph request labels other also
    → Dominates request rest also → ⊥

abbrev pub SomeRest : Graph → Ask → List Label → Label → Type 0
SomeRest graph request labels label = (rest : List Edge) × IsLabel graph request labels label rest

abbrev pub SomeWalk : Graph → Ask → List Label → Label → Type 0
SomeWalk graph request labels label = (walk : List Edge) × IsWalk graph request labels label walk

-- what a walk sends, and then its number of edges, in one number: a better walk has a smaller one
abbrev pub cost : ℕ → ℕ → ℕ
cost msat edges = msat * 32 + edges

-- the cost that a better walk is below
abbrev pub bound_of : ℕ → Option Label → ℕ
bound_of upper_bound None = cost upper_bound 0
bound_of upper_bound (Some found) = cost (found.amount + found.penalty) found.hops

-- the walk is no better than the best so far, or costs no less than the upper bound of the search
abbrev pub IsNoBetter : Graph → Ask → List Label → ℕ → Option Label → List Edge → Type 0
IsNoBetter graph request labels upper_bound None walk = upper_bound ≤ worth request walk
IsNoBetter graph request labels upper_bound (Some found) walk =
    (best : List Edge) × IsWalk graph request labels found best
    × NotAfter (walk_key request best) (walk_key request walk)

-- a label at the node represents a rest that dominates this one
pub record Has (graph : Graph) (request : Ask) (labels : List Label) (node : ℕ)
    (rest : List Edge) : Type 0 where
  pub place : ℕ
  pub within : place < length labels
  pub at : (label_at labels place).node ≡ node
  pub other : List Edge
  pub is : IsLabel graph request labels (label_at labels place) other
  pub dominates : Dominates request other rest

-- no walk over this rest is better than the best so far, or no edge can carry what it owes: it is pruned
abbrev pub IsHopeless : Ask → Low → ℕ → ℕ → List Edge → Type 0
IsHopeless request low bound node rest =
    (bound ≤ cost (weight request rest + number_at low.fees node) (length rest)) ⊎ (2 ^ 64 ≤ owed request.amount rest)

abbrev pub Reaches : Graph → Ask → Low → ℕ → List Label → Option Label → ℕ → List Edge → Type 0
Reaches graph request low upper_bound labels found node rest =
    Has graph request labels node rest ⊎ IsHopeless request low (bound_of upper_bound found) node rest

-- the rest was relaxed over this edge: to a walk, or else to a longer rest, if a walk over that can be within the limit
pub record IsRelaxed (graph : Graph) (request : Ask) (low : Low) (upper_bound : ℕ)
    (labels : List Label) (found : Option Label) (edge : Edge) (rest : List Edge) : Type 0 where
  pub whole : edge.from ≡ request.payer → IsNoBetter graph request labels upper_bound found (edge ∷ rest)
  pub longer : length rest + 1 < request.hops
      → delay request.limit (edge ∷ rest) + number_at low.delays edge.from ≤ most_delay request.limit
      → Reaches graph request low upper_bound labels found edge.from (edge ∷ rest)

-- over every edge into the node that can carry it
abbrev pub IsLeft : Graph → Ask → Low → ℕ → List Label → Option Label → ℕ → List Edge → Type 0
IsLeft graph request low upper_bound labels found node rest =
    (edge : Edge) → Contains (edges graph) edge → edge.to ≡ node → edge.min ≤ request.amount
    → owed request.amount rest ≤ edge.max →
    IsRelaxed graph request low upper_bound labels found edge rest

-- a label is pruned, or its rest or one that dominates it was relaxed
pub record IsSettled (graph : Graph) (request : Ask) (low : Low) (upper_bound : ℕ)
    (labels : List Label) (found : Option Label) (label : Label) : Type 0 where
  pub rest : List Edge
  pub is : IsLabel graph request labels label rest
  pub done : IsHopeless request low (bound_of upper_bound found) label.node rest ⊎
      ((other : List Edge) × Dominates request other rest
      × IsLeft graph request low upper_bound labels found label.node other)

-- the labels represent rests, the first of them the one without edges
pub record AreLabels (graph : Graph) (request : Ask) (labels : List Label) : Type 0 where
  pub some : 1 ≤ length labels
  pub first : ((label_at labels 0).node ≡ request.payee) × ((label_at labels 0).hops ≡ 0)
  pub sound : (i : ℕ) → i < length labels
      → (rest : List Edge) × IsLabel graph request labels (label_at labels i) rest
  pub few : (i : ℕ) → i < length labels → (label_at labels i).hops < request.hops

-- the best walk so far is a usable walk, and costs less than the upper bound of the search
abbrev pub IsFound : Graph → Ask → List Label → ℕ → Option Label → Type 0
IsFound graph request labels upper_bound None = Unit {0}
IsFound graph request labels upper_bound (Some found) =
    ((walk : List Edge) × IsWalk graph request labels found walk) × (found.amount + found.penalty < upper_bound)

-- labels were added, and the best walk so far is no worse
pub record Grows (graph : Graph) (request : Ask) (upper_bound : ℕ) (labels : List Label)
    (found : Option Label) (after : List Label) (now : Option Label) : Type 0 where
  pub more : List Label
  pub is : after ≡ labels ++ more
  pub lower : bound_of upper_bound now ≤ bound_of upper_bound found
  pub first : (walk : List Edge) → IsNoBetter graph request labels upper_bound found walk
      → IsNoBetter graph request after upper_bound now walk

-- the better of the best walk so far and the new one
pub record IsBetter (graph : Graph) (request : Ask) (labels : List Label) (upper_bound : ℕ)
    (found : Option Label) (new : Label) (now : Option Label) : Type 0 where
  pub found_is : IsFound graph request labels upper_bound now
  pub lower : bound_of upper_bound now ≤ bound_of upper_bound found
  pub below : bound_of upper_bound now ≤ cost (new.amount + new.penalty) new.hops
  pub keeps : (walk : List Edge) → IsNoBetter graph request labels upper_bound found walk
      → IsNoBetter graph request labels upper_bound now walk
  pub takes : (walk : List Edge) → IsWalk graph request labels new walk
      → IsNoBetter graph request labels upper_bound now walk

-- there is a label that dominates the new one
pub record IsOffered (graph : Graph) (request : Ask) (labels : List Label) (new : Label)
    (after : List Label) : Type 0 where
  pub labelled : AreLabels graph request after
  pub more : List Label
  pub is : after ≡ labels ++ more
  pub has : (rest : List Edge) → IsLabel graph request labels new rest → Has graph request after new.node rest

-- the label was relaxed over the edge, if that can carry it
abbrev pub RelaxesOn : Graph → Ask → Low → ℕ → List Label → ℕ → List Label → Option Label
    → Edge → Type 0
RelaxesOn graph request low upper_bound labels i after now edge =
    (rest : List Edge) → IsLabel graph request labels (label_at labels i) rest →
    edge.to ≡ (label_at labels i).node → edge.min ≤ request.amount → owed request.amount rest ≤ edge.max →
    IsRelaxed graph request low upper_bound after now edge rest

-- the label was relaxed
abbrev pub RelaxesAll : Graph → Ask → Low → ℕ → List Label → ℕ → List Label
    → Option Label → Type 0
RelaxesAll graph request low upper_bound labels i after now =
    (rest : List Edge) → IsLabel graph request labels (label_at labels i) rest
    → IsLeft graph request low upper_bound after now (label_at labels i).node rest

-- the index is marked, and no other that wasn't
pub record IsMarked (done : List Bool) (i : ℕ) (after : List Bool) : Type 0 where
  pub here : slice_index_or after i false ≡ true
  pub others : (j : ℕ) → slice_index_or after j false ≡ true → (j ≡ i) ⊎ (slice_index_or done j false ≡ true)
  pub still : (j : ℕ) → slice_index_or done j false ≡ true → slice_index_or after j false ≡ true

-- each label represents as many edges as its number of hops
abbrev pub AreSpelled : Graph → List Label → Type 0
AreSpelled graph labels = (i : ℕ) → i < length labels → IsSpelled graph labels (label_at labels i)

-- the label there is one of the same node, and dominates this one
pub record IsDominator (graph : Graph) (labels : List Label) (label : Label) (place : ℕ) : Type 0 where
  pub within : place < length labels
  pub node : (label_at labels place).node ≡ label.node
  pub dominates : DoesDominate graph labels (label_at labels place) label

-- the label there dominates the one here
abbrev pub IsDominatorOf : Graph → List Label → ℕ → ℕ → Type 0
IsDominatorOf graph labels i place = IsDominator graph labels (label_at labels i) place

-- each usable walk costs less than this, and sends less than 2^64
abbrev pub IsUpperBound : List Edge → Ask → ℕ → Type 0
IsUpperBound edges request upper_bound =
    (walk : List Edge) → IsUsable edges request walk
    → (worth request walk < upper_bound) × (sent request.amount walk < 2 ^ 64)

-- every marked label is settled
abbrev pub AreSettled : Graph → Ask → Low → ℕ → List Label → Option Label → List Bool → Type 0
AreSettled graph request low upper_bound labels found done =
    (i : ℕ) → slice_index_or done i false ≡ true
    → (i < length labels) × IsSettled graph request low upper_bound labels found (label_at labels i)

-- the amounts that the edges carry fit 64 bits
abbrev pub AreCarried : ℕ → List Edge → Type 0
AreCarried amount [] = Unit {0}
AreCarried amount (edge ∷ rest) = (owed amount rest < 2 ^ 64) × AreCarried amount rest
