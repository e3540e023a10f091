-- The result of the search: the best walk over numbered edges, whose amount fits 64 bits.
use Rattle.std.specs.Prelude.{◌≡◌, ◌≢◌, ◌⊎◌, ℕ, ◌+◌, ◌-◌, ◌*◌, ◌<◌, ◌≤◌, ◌^◌, ◌==◌, [], ◌∷◌, count_by, sum_by, if◌then◌else◌, min, All, AllPairs, Bool, true, false, ◌&&◌, nat_le, List, Option, Some, None, Result, Ok, Err, map, length, slice_index_or}
use Rattle.std.specs.List.{AllByRecursion, position}
use Rattle.lgm_wire.specs.declared.point.Point.{Point}
use Rattle.lgm_graph.specs.Edges.{PointEdge}
use Rattle.lgm_graph.specs.declared.edge.Edge.{Edge}
use Rattle.lgm_graph.specs.Graph.{Graph, edge_between, no_point, point_edges}
use Rattle.lgm_store.specs.Rows.{is_point}
use Rattle.lgm_route.specs.declared.request.Request.{Request}
use Rattle.lgm_graph.specs.declared.route.Hop.{Hop}
use Rattle.lgm_route.specs.inner.Numbered.{Ask, Terms, penalty_of}
use Rattle.lgm_route.specs.inner.Numbered.{sent, delay, most_delay, IsRest, IsUsable, IsLeast}
use Rattle.lgm_graph.specs.Route.{expiry}
use Rattle.lgm_route.specs.Routes as routes
use Rattle.lgm_route.specs.Preferred.{IsWithin}
use Rattle.lgm_route.specs.declared.fault.RouteFault.{RouteFault}
use Rattle.lgm_route.specs.declared.fault.RouteFault.TheVariants.{NoRoute, NoMemory}
use Rattle.lgm_route.specs.declared.found.Found.{Found}
use Rattle.lgm_route.specs.declared.found.SearchFault.{SearchFault}
use Rattle.lgm_route.specs.declared.found.SearchFault.TheVariants.{Fault, Undecided}
use Rattle.lgm_route.specs.declared.found.WalkFound.{WalkFound}
use Rattle.lgm_route.specs.declared.limits.RouteLimits.{RouteLimits}
use Rattle.lgm_route.specs.declared.limits.SearchBudget.{SearchBudget}
use Rattle.lgm_route.specs.declared.request.NumberedRequest.{NumberedRequest}

abbrev pub IsBestWalk : List Edge → Ask → Option (List Edge) → Type 0
IsBestWalk edges request None = (walk : List Edge) → IsUsable edges request walk → ⊥
IsBestWalk edges request (Some walk) = IsLeast edges request walk × (sent request.amount walk < 2 ^ 64)

-- the best walk so far is a usable one
abbrev pub IsWalkSoFar : List Edge → Ask → Option (List Edge) → Type 0
IsWalkSoFar edges request None = Unit {0}
IsWalkSoFar edges request (Some walk) = IsUsable edges request walk × (sent request.amount walk < 2 ^ 64)

-- a walk over numbered edges as one over edges between points
abbrev pub edges_in : Graph → List Edge → List PointEdge
edges_in graph walk = map (edge_between graph.points) walk

-- the point of a number
abbrev pub point_at : Graph → ℕ → Point
point_at graph number = slice_index_or graph.points number no_point

-- the hop over an edge
abbrev pub hop_over : Graph → Edge → ℕ → ℕ → Hop
hop_over graph edge amount expiry = record {
  scid = edge.scid;
  from = point_at graph edge.from;
  to = point_at graph edge.to;
  amount = amount;
  expiry = expiry;
}

-- both nodes of each edge are numbered
abbrev pub AreNumbered : Graph → List Edge → Type 0
AreNumbered graph walk =
    AllByRecursion (λ edge. (edge.from < length graph.points) × (edge.to < length graph.points)) walk

-- the penalties of edges between numbered nodes are those of the edges between their points
abbrev pub AreAlike : Graph → Option Terms → (PointEdge → ℕ → ℕ) → Type 0
AreAlike graph terms penalty =
    (edge : Edge) → edge.from < length graph.points → (amount : ℕ)
    → penalty_of terms edge amount ≡ penalty (edge_between graph.points edge) amount

-- there are no penalties
abbrev pub IsFree : (PointEdge → ℕ → ℕ) → Type 0
IsFree penalty = (edge : PointEdge) (amount : ℕ) → penalty edge amount ≡ 0

-- no penalty for any edge
abbrev pub free : PointEdge → ℕ → ℕ
free edge amount = 0

-- a request between numbered nodes as a search sees it
abbrev pub ask_of : ℕ → ℕ → Request → RouteLimits → Option Terms → Ask
ask_of payer payee request limits terms = record {
  payer = payer;
  payee = payee;
  amount = request.amount;
  limit = limits.most_delay;
  hops = min limits.most_hops 20;
  terms = terms;
}

-- a request between numbered nodes, or none if a node has no number, or no edge is allowed, and so no walk is usable
abbrev pub IsNumberingOf : {P : Type 0} → Graph → Request → RouteLimits → P → Option (NumberedRequest P) → Type 0
IsNumberingOf graph request limits penalties None =
    (walk : List PointEdge) → routes.IsUsable (point_edges graph) request walk → IsWithin limits walk → ⊥
IsNumberingOf graph request limits penalties (Some numbered) =
    (position (is_point request.payer) graph.points ≡ Some numbered.payer)
    × (position (is_point request.payee) graph.points ≡ Some numbered.payee)
    × (1 ≤ limits.most_hops) × (numbered ≡ record {
      payer = numbered.payer;
      payee = numbered.payee;
      amount = request.amount;
      limit = limits.most_delay;
      most_hops = min limits.most_hops 20;
      penalties = penalties;
    })

-- what the payer offers expires in time, if there is a limit
abbrev pub is_timely : Option ℕ → ℕ → List Hop → Bool
is_timely None height hops = true
is_timely (Some most) height hops = nat_le (expiry hops) (height + most)

-- the hops are within the limits, if this is the expiry of what the payee is offered
abbrev pub hops_within : RouteLimits → ℕ → List Hop → Bool
hops_within limits height hops = nat_le (length hops) limits.most_hops && is_timely limits.most_delay height hops

-- the rest of a walk: edges from some node to the payee, fewer than a walk may have, whose delay is within the limit
pub record IsRestWithin (edges : List Edge) (request : Ask) (rest : List Edge) : Type 0 where
  pub node : ℕ
  pub joins : IsRest edges request node rest
  pub short : length rest < request.hops
  pub in_time : delay request.limit rest ≤ most_delay request.limit

-- there are at least so many different ones
pub record HaveRests (edges : List Edge) (request : Ask) (count : ℕ) : Type 0 where
  pub rests : List (List Edge)
  pub many : count ≤ length rests
  pub within : All (IsRestWithin edges request) rests
  pub different : AllPairs (λ rest other. rest ≢ other) rests

-- the node at which a rest begins
abbrev pub start_of : Ask → List Edge → ℕ
start_of request [] = request.payee
start_of request (edge ∷ rest) = edge.from

-- how many of the rests begin at a node
abbrev pub rests_at : Ask → List (List Edge) → ℕ → ℕ
rests_at request rests node = count_by (λ rest. start_of request rest == node) rests

-- the steps of extending a rest that begins at a node
abbrev pub looks_at : Ask → List Edge → List (List Edge) → ℕ → ℕ
looks_at request edges rests node =
    sum_by (λ edge. if edge.to == node then 1 + rests_at request rests edge.from else 0) edges

-- the steps of a rest
abbrev pub steps_at : Ask → List Edge → List (List Edge) → ℕ → ℕ
steps_at request edges rests node = 4 * looks_at request edges rests node + rests_at request rests node

-- the most steps of a search that makes these rests
abbrev pub steps_of : Ask → List Edge → List (List Edge) → ℕ
steps_of request edges rests = sum_by (λ rest. steps_at request edges rests (start_of request rest)) rests

-- there are different ones of which a search may take more steps than these, or 2^32
pub record HaveSteps (edges : List Edge) (request : Ask) (steps : ℕ) : Type 0 where
  pub rests : List (List Edge)
  pub many : (steps < steps_of request edges rests) ⊎ (2 ^ 32 ≤ length rests)
  pub within : All (IsRestWithin edges request) rests
  pub different : AllPairs (λ rest other. rest ≢ other) rests

-- the budget can run out: there are as many as there may be labels, or 2^32; or some that may take more steps than there may be
abbrev pub IsUsedUp : List Edge → Ask → SearchBudget → Type 0
IsUsedUp edges request budget =
    ((budget.most_labels < 2 ^ 64 - 1) × HaveRests edges request (min budget.most_labels (2 ^ 32)))
    ⊎ ((budget.most_steps < 2 ^ 64 - 1) × HaveSteps edges request budget.most_steps)

-- any number of labels and steps
abbrev pub any_budget : SearchBudget
any_budget = record { most_labels = 2 ^ 64 - 1; most_steps = 2 ^ 64 - 1 }

-- what a search within a budget found: a usable walk, which may be the best one; or that none is usable
abbrev pub IsWalkFound : List Edge → Ask → Result WalkFound SearchFault → Type 0
IsWalkFound edges request (Ok found) =
    IsUsable edges request found.walk.items × (sent request.amount found.walk.items < 2 ^ 64)
    × (found.is_best ≡ true → IsLeast edges request found.walk.items)
IsWalkFound edges request (Err Undecided) = Unit {0}
IsWalkFound edges request (Err (Fault fault)) =
    (fault ≡ NoMemory) ⊎ ((fault ≡ NoRoute) × ((walk : List Edge) → IsUsable edges request walk → ⊥))

-- a better walk may be usable: the budget ran out
abbrev pub IsCutShort : Result WalkFound SearchFault → Type 0
IsCutShort (Ok found) = found.is_best ≡ false
IsCutShort (Err Undecided) = Unit {0}
IsCutShort (Err (Fault fault)) = ⊥

-- what was found without limits is the answer within these: the best route, which is within them, or a fault
abbrev pub is_settled : RouteLimits → ℕ → Result Found SearchFault → Bool
is_settled limits height (Ok found) = found.is_best && hops_within limits height found.route
is_settled limits height (Err Undecided) = false
is_settled limits height (Err (Fault fault)) = true

-- the route, or why there is none, where the budget can't run out
abbrev pub certain : Result Found SearchFault → Result (List Hop) RouteFault
certain (Ok found) = Ok found.route
certain (Err (Fault fault)) = Err fault
certain (Err Undecided) = Err NoRoute
