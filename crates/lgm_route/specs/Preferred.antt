-- The best walk by what its payer prefers, within limits: by relation and by exhaustive search.
use Rattle.std.specs.Prelude.{◌≡◌, ◌≢◌, ◌⊎◌, ℕ, ◌+◌, ◌-◌, ◌*◌, ◌^◌, ◌<◌, ◌≤◌, Bool, true, false, ◌&&◌, nat_le, min, List, [], ◌∷◌, length, filter, count_by, sum_by, if◌then◌else◌, All, AllPairs, Option, None, Some, Result, Ok, Err}
use Rattle.std.specs.declared.cmp.Ordering.TheVariants.{Less}
use Rattle.std.specs.Ordering.{nat_cmp}
use Rattle.std.specs.Cmp.Lexicographic.{slice_cmp}
use Rattle.lgm_wire.specs.declared.point.Point.{Point}
use Rattle.lgm_store.specs.Rows.{is_point}
use Rattle.lgm_graph.specs.Edges.{PointEdge, AreKeyed}
use Rattle.lgm_graph.specs.Estimates.{Entries, estimate_of}
use Rattle.lgm_graph.specs.declared.estimate.EdgeKey.{EdgeKey}
use Rattle.lgm_graph.specs.declared.estimate.Estimate.{Estimate}
use Rattle.lgm_graph.specs.declared.route.Hop.{Hop}
use Rattle.lgm_route.specs.declared.request.Request.{Request}
use Rattle.lgm_route.specs.declared.limits.RouteLimits.{RouteLimits}
use Rattle.lgm_route.specs.declared.limits.SearchBudget.{SearchBudget}
use Rattle.lgm_route.specs.declared.preferences.Preferences.{Preferences}
use Rattle.lgm_route.specs.declared.search.Search.{Search}
use Rattle.lgm_route.specs.declared.fault.RouteFault.{RouteFault}
use Rattle.lgm_route.specs.declared.fault.RouteFault.TheVariants.{NoRoute, NoMemory}
use Rattle.lgm_route.specs.declared.found.Found.{Found}
use Rattle.lgm_route.specs.declared.found.SearchFault.{SearchFault}
use Rattle.lgm_route.specs.declared.found.SearchFault.TheVariants.{Fault, Undecided}
use Rattle.lgm_route.specs.Routes.{owed, due, ids, IsRest, IsUsable, IsLeast, hops_of}
use Rattle.lgm_route.specs.Odds.{penalty_by}
use Rattle.lgm_route.specs.Answers.{refusal}
use Rattle.lgm_route.specs.Choice.{usable_walks, least_of, answer_by, answer_of}

-- ---- limits

-- the blocks between the expiry of what the payer offers and that of what the payee is offered: the first edge is the
-- payer's own, and adds none
abbrev pub delay : List PointEdge → ℕ
delay [] = 0
delay (edge ∷ rest) = due 0 rest

-- the walk takes no longer than the limit, if there is one
abbrev pub IsInTime : Option ℕ → List PointEdge → Type 0
IsInTime None walk = Unit {0}
IsInTime (Some most) walk = delay walk ≤ most

-- it has no more edges than the limit, and takes no longer
pub record IsWithin (limits : RouteLimits) (walk : List PointEdge) : Type 0 where
  pub short : length walk ≤ limits.most_hops
  pub in_time : IsInTime limits.most_delay walk

-- no limit but that of every walk
abbrev pub no_limits : RouteLimits
no_limits = record { most_delay = None; most_hops = 20 }

-- ---- what walks cost

-- the penalty of an edge for an amount, by what its payer prefers and what it knows
abbrev pub penalty_at : Preferences → Entries → PointEdge → ℕ → ℕ
penalty_at preferences known edge amount =
    penalty_by preferences.failure_msat preferences.hop_msat (estimate_of known edge.scid edge.from) edge.max amount

-- the same by how a route is sought
abbrev pub penalty_for : Search → PointEdge → ℕ → ℕ
penalty_for search = penalty_at search.preferences search.estimates.now

-- no preferences
abbrev pub no_preferences : Preferences
no_preferences = record { failure_msat = 0; hop_msat = 0 }

abbrev pub HasNoPenalty : (EdgeKey × Estimate) → Type 0
HasNoPenalty entry = entry.1.penalty ≡ 0

-- each edge costs its fee alone: nothing is preferred, and no edge of which something is known has a penalty
pub record PrefersNothing (search : Search) : Type 0 where
  pub preferences : search.preferences ≡ no_preferences
  pub known : All HasNoPenalty search.estimates.now

-- the penalties of these edges, each for what it carries
abbrev pub penalties : (PointEdge → ℕ → ℕ) → ℕ → List PointEdge → ℕ
penalties penalty amount [] = 0
penalties penalty amount (edge ∷ rest) = penalties penalty amount rest + penalty edge (owed amount rest)

-- what a walk costs: what is sent and the penalties. The first edge is the payer's own, and has none
abbrev pub worth : (PointEdge → ℕ → ℕ) → ℕ → List PointEdge → ℕ
worth penalty amount [] = amount
worth penalty amount (edge ∷ rest) = owed amount rest + penalties penalty amount rest

-- what it costs, then the number of edges, then the ids
abbrev pub worth_key : (PointEdge → ℕ → ℕ) → Request → List PointEdge → List ℕ
worth_key penalty request walk = worth penalty request.amount walk ∷ length walk ∷ ids walk

-- lexicographic order of these
abbrev pub IsPreferred : (PointEdge → ℕ → ℕ) → Request → List PointEdge → List PointEdge → Type 0
IsPreferred penalty request walk other =
    slice_cmp nat_cmp (worth_key penalty request walk) (worth_key penalty request other) ≡ Less

-- a usable walk within the limits to which no other is preferred
pub record IsLeastBy (penalty : PointEdge → ℕ → ℕ) (limits : RouteLimits) (edges : List PointEdge) (request : Request)
    (walk : List PointEdge) : Type 0 where
  pub usable : IsUsable edges request walk
  pub within : IsWithin limits walk
  pub first : (other : List PointEdge) → IsUsable edges request other → IsWithin limits other
      → IsPreferred penalty request other walk → ⊥

-- its hops, or no route if no walk within the limits is usable
abbrev pub IsFoundBy : (PointEdge → ℕ → ℕ) → RouteLimits → List PointEdge → Request → Result (List Hop) RouteFault → Type 0
IsFoundBy penalty limits edges request (Ok hops) =
    (walk : List PointEdge) × IsLeastBy penalty limits edges request walk × (hops ≡ hops_of request walk)
IsFoundBy penalty limits edges request (Err fault) =
    (fault ≡ NoRoute) × ((walk : List PointEdge) → IsUsable edges request walk → IsWithin limits walk → ⊥)

-- the refusal, if there is one, else what is found
abbrev pub IsPreferredBy : Option RouteFault → (PointEdge → ℕ → ℕ) → RouteLimits → List PointEdge → Request
    → Result (List Hop) RouteFault → Type 0
IsPreferredBy (Some fault) penalty limits edges request answer = answer ≡ Err fault
IsPreferredBy None penalty limits edges request answer = IsFoundBy penalty limits edges request answer

abbrev pub IsPreferredAnswer : (PointEdge → ℕ → ℕ) → RouteLimits → List PointEdge → Request → Result (List Hop) RouteFault → Type 0
IsPreferredAnswer penalty limits edges request answer = IsPreferredBy (refusal request) penalty limits edges request answer

-- ---- by exhaustive search

abbrev pub is_in_time : Option ℕ → List PointEdge → Bool
is_in_time None walk = true
is_in_time (Some most) walk = nat_le (delay walk) most

abbrev pub is_within : RouteLimits → List PointEdge → Bool
is_within limits walk = nat_le (length walk) limits.most_hops && is_in_time limits.most_delay walk

-- the usable walks within the limits
abbrev pub walks_within : RouteLimits → List PointEdge → Request → List (List PointEdge)
walks_within limits edges request = filter (is_within limits) (usable_walks edges request)

-- the best of them
unfoldable pub preferred_walk : (PointEdge → ℕ → ℕ) → RouteLimits → List PointEdge → Request → Option (List PointEdge)
preferred_walk penalty limits edges request = least_of (worth_key penalty request) (walks_within limits edges request)

-- the first refusal, or the hops of the best walk within the limits, or that none is usable
unfoldable pub preferred_answer : (PointEdge → ℕ → ℕ) → RouteLimits → List PointEdge → Request → Result (List Hop) RouteFault
preferred_answer penalty limits edges request =
    answer_by (refusal request) request (preferred_walk penalty limits edges request)

-- the same by how a route is sought
abbrev pub answer_for : Search → List PointEdge → Request → Result (List Hop) RouteFault
answer_for search edges request = preferred_answer (penalty_for search) search.limits edges request

-- ---- what a call returns

-- the hops of a usable walk within the limits
abbrev pub IsSomeRoute : RouteLimits → List PointEdge → Request → List Hop → Type 0
IsSomeRoute limits edges request hops =
    (walk : List PointEdge) × IsUsable edges request walk × IsWithin limits walk × (hops ≡ hops_of request walk)

-- the best route, which is what the answer is, or one that may not be the best; or why there is none. Neither if memory
-- or the budget ran out
abbrev pub IsRouteBy : (Result (List Hop) RouteFault → Type 0) → RouteLimits → List PointEdge → Request
    → Result Found SearchFault → Type 0
IsRouteBy is limits edges request (Ok found) =
    (found.is_best ≡ true → is (Ok found.route))
    × IsSomeRoute limits edges request found.route × (refusal request ≡ None)
IsRouteBy is limits edges request (Err Undecided) = refusal request ≡ None
IsRouteBy is limits edges request (Err (Fault fault)) = (fault ≡ NoMemory) ⊎ is (Err fault)

-- the answer may not be the best one: the budget ran out
abbrev pub IsCutShort : Result Found SearchFault → Type 0
IsCutShort (Ok found) = found.is_best ≡ false
IsCutShort (Err Undecided) = Unit {0}
IsCutShort (Err (Fault fault)) = ⊥

-- the blocks of these edges are no more than the limit, if there is one
abbrev pub IsDueIn : Option ℕ → List PointEdge → Type 0
IsDueIn None rest = Unit {0}
IsDueIn (Some most) rest = due 0 rest ≤ most

-- the rest of a walk within the limits: consecutive edges from some node to the payee, each of which can carry what those
-- after it need. The payer's own comes before them, so they are fewer than a walk may have, and the blocks of all count
pub record IsRestWithin (limits : RouteLimits) (edges : List PointEdge) (request : Request) (rest : List PointEdge) : Type 0 where
  pub node : Point
  pub joins : IsRest edges request node rest
  pub short : length rest < min limits.most_hops 20
  pub in_time : IsDueIn limits.most_delay rest

-- there are at least so many different ones
pub record HaveRests (limits : RouteLimits) (edges : List PointEdge) (request : Request) (count : ℕ) : Type 0 where
  pub rests : List (List PointEdge)
  pub many : count ≤ length rests
  pub within : All (IsRestWithin limits edges request) rests
  pub different : AllPairs (λ rest other. rest ≢ other) rests

-- the node at which a rest begins
abbrev pub start_of : Request → List PointEdge → Point
start_of request [] = request.payee
start_of request (edge ∷ rest) = edge.from

-- how many of the rests begin at a node
abbrev pub rests_at : Request → List (List PointEdge) → Point → ℕ
rests_at request rests node = count_by (λ rest. is_point node (start_of request rest)) rests

-- the steps of extending a rest that begins at a node: each edge into the node is looked at, and the rest that it leads to
-- compared with those that begin where that does
abbrev pub looks_at : Request → List PointEdge → List (List PointEdge) → Point → ℕ
looks_at request edges rests node =
    sum_by (λ edge. if is_point node edge.to then 1 + rests_at request rests edge.from else 0) edges

-- the steps of a rest: it is extended once, by dives up to three times more, and compared once with those that begin there
abbrev pub steps_at : Request → List PointEdge → List (List PointEdge) → Point → ℕ
steps_at request edges rests node = 4 * looks_at request edges rests node + rests_at request rests node

-- the most steps of a search that makes these rests
abbrev pub steps_of : Request → List PointEdge → List (List PointEdge) → ℕ
steps_of request edges rests = sum_by (λ rest. steps_at request edges rests (start_of request rest)) rests

-- there are different ones of which a search may take more steps than these, or 2^32
pub record HaveSteps (limits : RouteLimits) (edges : List PointEdge) (request : Request) (steps : ℕ) : Type 0 where
  pub rests : List (List PointEdge)
  pub many : (steps < steps_of request edges rests) ⊎ (2 ^ 32 ≤ length rests)
  pub within : All (IsRestWithin limits edges request) rests
  pub different : AllPairs (λ rest other. rest ≢ other) rests

-- the budget can run out: there are as many rests as there may be labels, or 2^32; or rests that may take more steps than
-- there may be
abbrev pub IsUsedUp : RouteLimits → List PointEdge → Request → SearchBudget → Type 0
IsUsedUp limits edges request budget =
    ((budget.most_labels < 2 ^ 64 - 1) × HaveRests limits edges request (min budget.most_labels (2 ^ 32)))
    ⊎ ((budget.most_steps < 2 ^ 64 - 1) × HaveSteps limits edges request budget.most_steps)

-- the walk that sends least of all isn't within the limits
abbrev pub IsBeyond : RouteLimits → List PointEdge → Request → Type 0
IsBeyond limits edges request = (walk : List PointEdge) × IsLeast edges request walk × (IsWithin limits walk → ⊥)

-- ---- laws

-- exhaustive search returns an answer; if node and id identify an edge, each answer is that one
pub record PreferredIsOne : Type 0 where
  pub found : (penalty : PointEdge → ℕ → ℕ) (limits : RouteLimits) (edges : List PointEdge) (request : Request)
      → IsPreferredAnswer penalty limits edges request (preferred_answer penalty limits edges request)
  pub one : (preferences : Preferences) (known : Entries) (limits : RouteLimits) (edges : List PointEdge)
      (request : Request) (answer : Result (List Hop) RouteFault) → AreKeyed edges
      → IsPreferredAnswer (penalty_at preferences known) limits edges request answer
      → answer ≡ preferred_answer (penalty_at preferences known) limits edges request

-- the answer of a payer that prefers nothing and knows of no edge, without limits, is that of the walk that sends least
abbrev pub NothingPreferred : Type 0
NothingPreferred =
    (edges : List PointEdge) (request : Request) → AreKeyed edges
    → preferred_answer (penalty_at no_preferences []) no_limits edges request ≡ answer_of edges request
