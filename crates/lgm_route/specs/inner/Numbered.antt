-- Walks over edges between numbered nodes: as in Routes, for the search.
use Rattle.std.specs.Prelude.{◌≡◌, ℕ, ◌+◌, ◌<◌, ◌≤◌, List, [], ◌∷◌, length, map, slice_get, Contains, Option, Some, None}
use Rattle.std.specs.declared.cmp.Ordering.TheVariants.{Less}
use Rattle.std.specs.Ordering.{nat_cmp}
use Rattle.std.specs.Cmp.Lexicographic.{slice_cmp}
use Rattle.lgm_graph.specs.Fee.{fee_of}
use Rattle.lgm_wire.specs.declared.point.Point.{Point}
use Rattle.lgm_graph.specs.Estimates.{Entries, estimate_of, no_estimate}
use Rattle.lgm_graph.specs.declared.edge.Edge.{Edge}
use Rattle.lgm_graph.specs.declared.estimate.Estimate.{Estimate}
use Rattle.lgm_route.specs.Odds.{penalty_by}
use Rattle.lgm_route.specs.declared.request.NumberedRequest.{NumberedRequest}

-- what a payer puts on a failed try and on each hop, and what it knows of edges, which are named by points
pub record Terms : Type 0 where
  pub failure : ℕ
  pub hop : ℕ
  -- the point of each node number
  pub points : List Point
  pub known : Entries

-- what is known of an edge out of a point, if there is one
abbrev pub known_from : Entries → ℕ → Option Point → Estimate
known_from known id None = no_estimate
known_from known id (Some point) = estimate_of known id point

-- what the payer would rather pay than send the amount over the edge: nothing without terms
abbrev pub penalty_of : Option Terms → Edge → ℕ → ℕ
penalty_of None edge amount = 0
penalty_of (Some terms) edge amount =
    penalty_by terms.failure terms.hop (known_from terms.known edge.scid (slice_get terms.points edge.from)) edge.max amount

-- a request as a search sees it
pub record Ask : Type 0 where
  pub payer : ℕ
  pub payee : ℕ
  pub amount : ℕ
  pub limit : Option ℕ
  -- the greatest number of edges
  pub hops : ℕ
  pub terms : Option Terms

abbrev pub asked : {P : Type 0} → Option Terms → NumberedRequest P → Ask
asked terms request = record {
  payer = request.payer;
  payee = request.payee;
  amount = request.amount;
  limit = request.limit;
  hops = request.most_hops;
  terms = terms;
}

-- what has to reach the first node of these edges so that the amount reaches their end, with the fee of each node on
-- the way. Each edge carries what has to reach the edges after it: the last one the amount itself
abbrev pub owed : ℕ → List Edge → ℕ
owed amount [] = amount
owed amount (edge ∷ rest) = let passed = owed amount rest in passed + fee_of passed edge.base edge.millionths

-- what the payer sends: the first edge is its own, and charges nothing
abbrev pub sent : ℕ → List Edge → ℕ
sent amount [] = amount
sent amount (edge ∷ rest) = owed amount rest

-- the penalties of these edges, each for what it carries
abbrev pub penalties : Option Terms → ℕ → List Edge → ℕ
penalties terms amount [] = 0
penalties terms amount (edge ∷ rest) = penalties terms amount rest + penalty_of terms edge (owed amount rest)

-- some rest has these penalties
abbrev pub IsSpent : Option Terms → ℕ → Type 0
IsSpent terms spent = (amount : ℕ) × (rest : List Edge) × (length rest ≤ 20) × (penalties terms amount rest ≡ spent)

-- what has to reach the first node of these edges, and their penalties
abbrev pub weight : Ask → List Edge → ℕ
weight request rest = owed request.amount rest + penalties request.terms request.amount rest

-- what a walk costs: the first edge is the payer's own, and has no penalty
abbrev pub worth : Ask → List Edge → ℕ
worth request [] = request.amount
worth request (edge ∷ rest) = weight request rest

-- the blocks of an edge that count: none without a limit
abbrev pub counted : Option ℕ → Edge → ℕ
counted None edge = 0
counted (Some limit) edge = edge.delta

-- the greatest delay, in blocks that count
abbrev pub most_delay : Option ℕ → ℕ
most_delay None = 0
most_delay (Some limit) = limit

-- the delay of these edges, in blocks that count
abbrev pub delay : Option ℕ → List Edge → ℕ
delay limit [] = 0
delay limit (edge ∷ rest) = delay limit rest + counted limit edge

-- the delay of a walk: the first edge is the payer's own, and adds nothing
abbrev pub walk_delay : Option ℕ → List Edge → ℕ
walk_delay limit [] = 0
walk_delay limit (edge ∷ rest) = delay limit rest

-- the delay of a rest with one more edge, or none if with this delay before it that is beyond the limit
abbrev pub IsDelayOver : Option ℕ → ℕ → Edge → ℕ → Option ℕ → Type 0
IsDelayOver limit delay edge before None = most_delay limit < delay + counted limit edge + before
IsDelayOver limit delay edge before (Some longer) =
    (longer ≡ delay + counted limit edge) × (delay ≤ most_delay limit → longer ≤ most_delay limit)

-- an edge of the list from the node that can carry what the edges after it need
pub record IsStep (edges : List Edge) (request : Ask) (node : ℕ) (edge : Edge)
    (rest : List Edge) : Type 0 where
  pub there : Contains edges edge
  pub leaves : edge.from ≡ node
  pub above_min : edge.min ≤ request.amount
  pub below_max : owed request.amount rest ≤ edge.max

-- consecutive edges, from the node to the payee
abbrev pub IsRest : List Edge → Ask → ℕ → List Edge → Type 0
IsRest edges request node [] = node ≡ request.payee
IsRest edges request node (edge ∷ rest) =
    IsStep edges request node edge rest × IsRest edges request edge.to rest

-- a walk from the payer to the payee, within the request's limits
pub record IsUsable (edges : List Edge) (request : Ask) (walk : List Edge) : Type 0 where
  pub some : 1 ≤ length walk
  pub few : length walk ≤ request.hops
  pub joins : IsRest edges request request.payer walk
  pub in_time : walk_delay request.limit walk ≤ most_delay request.limit

abbrev pub ids : List Edge → List ℕ
ids walk = map (λ edge. edge.scid) walk

-- lexicographic order of what walks cost, then the number of edges, then the ids
abbrev pub Precedes : Ask → List Edge → List Edge → Type 0
Precedes request walk other =
    slice_cmp nat_cmp
    (worth request walk ∷ length walk ∷ ids walk)
    (worth request other ∷ length other ∷ ids other) ≡ Less

-- a usable walk that no usable walk precedes
pub record IsLeast (edges : List Edge) (request : Ask) (walk : List Edge) : Type 0 where
  pub usable : IsUsable edges request walk
  pub first : (other : List Edge) → IsUsable edges request other → Precedes request other walk → ⊥
