-- What a search for a route finds.
use Rattle.std.specs.Prelude.{◌≡◌, ◌⊎◌, ℕ, true, false, List, Option, Result, Ok, Err}
use Rattle.lgm_store.specs.Rows.{Rows}
use Rattle.lgm_graph.specs.declared.route.Hop.{Hop}
use Rattle.lgm_route.specs.Preferred.{IsRouteBy, IsCutShort}
use Rattle.lgm_route.specs.declared.found.Found.{Found}
use Rattle.lgm_route.specs.declared.found.SearchFault.{SearchFault}
use Rattle.lgm_c.specs.declared.fault.Fault.{Fault}
use Rattle.lgm_c.specs.declared.fault.Fault.TheVariants as faults
use Rattle.lgm_c.specs.Status.{number_of, unfound}
use Rattle.lgm_c.specs.Attempts.{AttemptParts, explained_number, edges_for, answer_for, route_over, IsRouteFor, MayStop}
use Rattle.lgm_c.specs.Routing.{IsSearched}
use Rattle.lgm_route.specs.declared.no_route.NoRouteReason.{NoRouteReason}
use Rattle.lgm_route.specs.Reasons.{IsExplained, IsUnexplained}

-- the answer over the edges for an attempt, unless the search ran out of memory, or of its budget
pub record IsFound (attempt : AttemptParts) (known : Option (List ℕ)) (rows : Rows) (result : Result Found SearchFault) : Type 0 where
  pub answer : IsRouteBy (λ answer. answer ≡ answer_for attempt (edges_for attempt known rows)) attempt.limits
      (edges_for attempt known rows) attempt.request result
  pub stops : IsCutShort result → MayStop attempt known rows

-- what a call gives where this is expected: a route that may not be the best only if the search may stop
abbrev pub GivesRoute : Result (List Hop) Fault → Type 0 → (List Hop → Type 0) → Result Found Fault → Type 0
GivesRoute expected stops is_route (Ok found) =
    ((found.is_best ≡ true) × (expected ≡ Ok found.route))
    ⊎ ((found.is_best ≡ false) × IsSearched expected × stops × is_route found.route)
GivesRoute expected stops is_route (Err fault) =
    (expected ≡ Err fault) ⊎ (IsSearched expected × (fault ≡ faults.NoMemory))
    ⊎ (IsSearched expected × stops × (fault ≡ faults.Undecided))

-- so is the route for an attempt
abbrev pub IsRouted : AttemptParts → Option (List ℕ) → Rows → Result Found Fault → Type 0
IsRouted attempt known rows =
    GivesRoute (route_over attempt known rows) (MayStop attempt known rows) (IsRouteFor attempt known rows)

-- why there is no route for an attempt, if there is none, or why that isn't known
abbrev pub IsReasonFound : AttemptParts → Option (List ℕ) → Rows → Result (Option NoRouteReason) SearchFault → Type 0
IsReasonFound attempt known rows (Ok found) = IsExplained found attempt.limits (edges_for attempt known rows) attempt.request
IsReasonFound attempt known rows (Err fault) = IsUnexplained (edges_for attempt known rows) attempt.request attempt.budget fault

-- its number, or that of the fault
abbrev pub number_found : Result (Option NoRouteReason) SearchFault → ℕ
number_found (Ok found) = explained_number found
number_found (Err fault) = number_of (unfound fault)
