-- Lower bounds on the fees and the delays from the payer to each node, and the forward search that computes them.
use Rattle.std.specs.Prelude.{◌≡◌, ◌⊎◌, ℕ, ◌+◌, ◌<◌, ◌≤◌, min, List, length}
use Rattle.std.specs.Prelude.{map, Contains, Bool, true, slice_index_or, false}
use Rattle.lgm_graph.specs.Fee.{fee_of}
use Rattle.lgm_graph.specs.declared.edge.Edge.{Edge}
use Rattle.lgm_route.specs.declared.bounds.Measure.{Measure}
use Rattle.lgm_route.specs.declared.bounds.Measure.TheVariants.{Fees, Delays}
use Rattle.lgm_route.specs.inner.Numbered.{Ask, penalty_of}
use Rattle.lgm_route.specs.inner.Numbered.{counted, most_delay}
use Rattle.lgm_route.specs.inner.Searching.{Low, number_at}

-- what an edge adds: its fee and its penalty for the request's amount, or the blocks of it that count
abbrev pub charged : Measure → Ask → Edge → ℕ
charged Fees request edge = fee_of request.amount edge.base edge.millionths + penalty_of request.terms edge request.amount
charged Delays request edge = counted request.limit edge

-- an edge that can carry the amount. Unless it is the payer's own, it isn't beyond the limit alone
pub record MayCarry (request : Ask) (edge : Edge) : Type 0 where
  pub above_min : edge.min ≤ request.amount
  pub below_max : request.amount ≤ edge.max
  pub quick : (edge.from ≡ request.payer) ⊎ (counted request.limit edge ≤ most_delay request.limit)

-- lower bounds on what is added from the payer to each node: over an edge they grow by at most what it adds
pub record AreLowBy (measure : Measure) (edges : List Edge) (request : Ask) (low : List ℕ) : Type 0 where
  pub rises : (edge : Edge) → Contains edges edge → MayCarry request edge →
      number_at low edge.to ≤ number_at low edge.from + charged measure request edge
  pub none : (edge : Edge) → Contains edges edge → MayCarry request edge
      → edge.from ≡ request.payer → number_at low edge.to ≡ 0

-- lower bounds on the fees, and on the delays that count
pub record AreLow (edges : List Edge) (request : Ask) (low : Low) : Type 0 where
  pub fees : AreLowBy Fees edges request low.fees
  pub delays : AreLowBy Delays edges request low.delays

abbrev pub is_closed : List Bool → ℕ → Bool
is_closed closed node = slice_index_or closed node false

-- the fees to a node were lowered, if they were more, and the node opened
pub record IsLowered (dist : List ℕ) (closed : List Bool) (node amount : ℕ) (after : List ℕ)
    (now : List Bool) : Type 0 where
  pub near : number_at after node ≤ amount
  pub falls : (other : ℕ) → number_at after other ≤ number_at dist other
  pub others : (other : ℕ) → (other ≡ node) ⊎ (number_at after other ≡ number_at dist other)
  pub least : (other : ℕ) → (number_at after other ≡ number_at dist other) ⊎ (amount ≤ number_at after other)
  pub still : (other : ℕ) → is_closed now other ≡ true
      → (is_closed closed other ≡ true) × (number_at after other ≡ number_at dist other)

-- a node was closed, and the fees stayed
pub record IsShut (dist : List ℕ) (closed : List Bool) (node : ℕ) (after : List ℕ) (now : List Bool) : Type 0 where
  pub same : (other : ℕ) → number_at after other ≡ number_at dist other
  pub still : (other : ℕ) → is_closed now other ≡ true → (is_closed closed other ≡ true) ⊎ (other ≡ node)

-- over the edges out of a closed node the fees grow by at most what the edge adds, and from the payer by nothing
pub record IsSpread (measure : Measure) (edges : List Edge) (request : Ask) (dist : List ℕ)
    (closed : List Bool) : Type 0 where
  pub near : (edge : Edge) → Contains edges edge → is_closed closed edge.from ≡ true → MayCarry request edge →
      number_at dist edge.to ≤ number_at dist edge.from + charged measure request edge
  pub first : (edge : Edge) → Contains edges edge → is_closed closed edge.from ≡ true → MayCarry request edge →
      edge.from ≡ request.payer → number_at dist edge.to ≤ 0
  pub payer : number_at dist request.payer ≡ 0

-- the fees to the edge's end are at most those to its start and what the edge adds, which is 0 from the payer
pub record IsNear (measure : Measure) (request : Ask) (start nodes : ℕ) (dist : List ℕ) (edge : Edge) : Type 0 where
  pub over : edge.to < nodes → MayCarry request edge → number_at dist edge.to ≤ start + charged measure request edge
  pub first : edge.to < nodes → MayCarry request edge → edge.from ≡ request.payer → number_at dist edge.to ≤ start

-- the effect of relaxing an edge
pub record IsLooked (measure : Measure) (request : Ask) (start : ℕ) (edge : Edge) (dist : List ℕ) (closed : List Bool)
    (after : List ℕ) (now : List Bool) : Type 0 where
  pub falls : (other : ℕ) → number_at after other ≤ number_at dist other
  pub keeps : (edges : List Edge) → IsSpread measure edges request dist closed → IsSpread measure edges request after now
  pub stays : (at : ℕ) → start ≤ number_at dist at → start ≤ number_at after at
  pub near : IsNear measure request start (length dist) after edge

abbrev pub IsRadius : List ℕ → List Bool → ℕ → Type 0
IsRadius dist closed most =
    (node : ℕ) → node < length dist → is_closed closed node ≡ false → most ≤ number_at dist node

-- each number is the old one, or the given maximum if that is less
pub record AreCut (dist : List ℕ) (most : ℕ) (after : List ℕ) : Type 0 where
  pub long : length after ≡ length dist
  pub each : (node : ℕ) → node < length dist → ((number_at after node ≡ number_at dist node)
      × (number_at dist node ≤ most)) ⊎ ((number_at after node ≡ most) × (most ≤ number_at dist node))

-- the bounds: the fees, but at most the radius
abbrev pub bounds_in : ℕ → List ℕ → List ℕ
bounds_in radius dist = map (λ charged. min charged radius) dist
