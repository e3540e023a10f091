-- Walks over edges between points, what they cost, and the best one.
use Rattle.std.specs.Prelude.{◌≡◌, ◌≢◌, ◌⊎◌, ℕ, ◌+◌, ◌≤◌, List, [], ◌∷◌}
use Rattle.std.specs.Prelude.{length, map, Contains}
use Rattle.std.specs.declared.cmp.Ordering.TheVariants.{Less}
use Rattle.std.specs.Ordering.{nat_cmp}
use Rattle.std.specs.Cmp.Lexicographic.{slice_cmp}
use Rattle.lgm_wire.specs.declared.point.Point.{Point}
use Rattle.lgm_graph.specs.Fee.{fee_of}
use Rattle.lgm_graph.specs.Edges.{PointEdge, AreKeyed}
use Rattle.lgm_graph.specs.Overlay.{AreNarrowed}
use Rattle.lgm_route.specs.declared.request.Request.{Request}
use Rattle.lgm_graph.specs.declared.route.Hop.{Hop}

-- what has to reach the first node of these edges so that the amount reaches their end, with the fee of each node on
-- the way: each edge carries what has to reach the edges after it
abbrev pub owed : ℕ → List PointEdge → ℕ
owed amount [] = amount
owed amount (edge ∷ rest) = let passed = owed amount rest in passed + fee_of passed edge.base edge.millionths

-- what the payer sends: the first edge is its own, and charges nothing
abbrev pub sent : ℕ → List PointEdge → ℕ
sent amount [] = amount
sent amount (edge ∷ rest) = owed amount rest

-- the expiry that has to reach the first node of these edges
abbrev pub due : ℕ → List PointEdge → ℕ
due expiry [] = expiry
due expiry (edge ∷ rest) = due expiry rest + edge.delta

-- an edge of the list from the node: the amount is at least its minimum, and what it carries, as the edges after it
-- need it, at most its maximum
pub record IsStep (edges : List PointEdge) (request : Request) (node : Point) (edge : PointEdge)
    (rest : List PointEdge) : Type 0 where
  pub there : Contains edges edge
  pub leaves : edge.from ≡ node
  pub above_min : edge.min ≤ request.amount
  pub below_max : owed request.amount rest ≤ edge.max

-- consecutive edges, from the node to the payee
abbrev pub IsRest : List PointEdge → Request → Point → List PointEdge → Type 0
IsRest edges request node [] = node ≡ request.payee
IsRest edges request node (edge ∷ rest) =
    IsStep edges request node edge rest × IsRest edges request edge.to rest

-- a walk of 1 to 20 edges, from the payer to the payee
pub record IsUsable (edges : List PointEdge) (request : Request) (walk : List PointEdge) : Type 0 where
  pub some : 1 ≤ length walk
  pub few : length walk ≤ 20
  pub joins : IsRest edges request request.payer walk

-- the ids of its channels, from the payer on
abbrev pub ids : List PointEdge → List ℕ
ids walk = map (λ edge. edge.scid) walk

-- what is sent, then the number of edges, then the ids
abbrev pub walk_key : Request → List PointEdge → List ℕ
walk_key request walk = sent request.amount walk ∷ length walk ∷ ids walk

-- lexicographic order of the keys
abbrev pub Precedes : Request → List PointEdge → List PointEdge → Type 0
Precedes request walk other = slice_cmp nat_cmp (walk_key request walk) (walk_key request other) ≡ Less

-- a usable walk that no usable walk precedes
pub record IsLeast (edges : List PointEdge) (request : Request) (walk : List PointEdge) : Type 0 where
  pub usable : IsUsable edges request walk
  pub first : (other : List PointEdge) → IsUsable edges request other → Precedes request other walk → ⊥

-- the walk as hops: the amount and expiry of each edge are what has to reach the edges after it
abbrev pub hops_of : Request → List PointEdge → List Hop
hops_of request [] = []
hops_of request (edge ∷ rest) =
    record {
      scid = edge.scid;
      from = edge.from;
      to = edge.to;
      amount = owed request.amount rest;
      expiry = due request.expiry rest;
    }
    ∷ hops_of request rest

-- some edge of the walk ends at the node
abbrev pub Visits : Point → List PointEdge → Type 0
Visits node [] = ⊥
Visits node (edge ∷ rest) = (edge.to ≡ node) ⊎ Visits node rest

-- a walk from the node visits no node twice
abbrev pub IsSimple : Point → List PointEdge → Type 0
IsSimple node [] = Unit {0}
IsSimple node (edge ∷ rest) = (Visits node (edge ∷ rest) → ⊥) × IsSimple edge.to rest

-- if node and id identify an edge, a request between different nodes has at most one best walk, which visits no node
-- twice
abbrev pub LeastIsOne : Type 0
LeastIsOne =
    (edges : List PointEdge) (request : Request) (walk other : List PointEdge) → AreKeyed edges
    → request.payer ≢ request.payee →
    IsLeast edges request walk → IsLeast edges request other → (walk ≡ other) × IsSimple request.payer walk

-- edges that are removed, or carry less, let no payment through that had no route, and make none cheaper
pub record NarrowingNeverHelps : Type 0 where
  pub usable : (edges others : List PointEdge) (request : Request) (walk : List PointEdge) → AreNarrowed edges others
      → IsUsable edges request walk → (other : List PointEdge) × IsUsable others request other
  pub sent : (edges others : List PointEdge) (request : Request) (walk best : List PointEdge) → AreNarrowed edges others
      → IsUsable edges request walk → IsLeast others request best → sent request.amount best ≤ sent request.amount walk
