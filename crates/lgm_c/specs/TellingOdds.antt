-- The odds that a route fails, as C gets them.
use Rattle.std.specs.Prelude.{◌≡◌, ◌⊎◌, ℕ, List, map, Option, Some, None}
use Rattle.lgm_store.specs.Rows.{Rows}
use Rattle.lgm_graph.specs.Estimates.{Entries, estimate_of}
use Rattle.lgm_odds.specs.RouteOdds.{route_odds}
use Rattle.lgm_c.specs.declared.argument_fault.ArgumentFault.{ArgumentFault}
use Rattle.lgm_c.specs.declared.argument_fault.ArgumentFault.TheVariants as wrong
use Rattle.lgm_c.specs.declared.attempt.LgmAttempt.{LgmAttempt}
use Rattle.lgm_c.specs.declared.fault.Fault.TheVariants as faults
use Rattle.lgm_c.specs.declared.routes.LgmHop.{LgmHop}
use Rattle.lgm_c.specs.Arrivals.{IsRoute, hops_given}
use Rattle.lgm_c.specs.Attempts.{extra_given, limit_given, overlay_given, wrong_argument}
use Rattle.lgm_c.specs.MapState.{MapState}
use Rattle.lgm_c.specs.Status.{number_of, no_memory}

-- those of hops in a map, over an attempt's edges and limits, by what is believed of edges
abbrev pub odds_told : LgmAttempt → Rows → Entries → List LgmHop → ℕ
odds_told attempt rows entries hops =
    route_odds rows (map extra_given attempt.edges.now) (map limit_given attempt.limits.now) (estimate_of entries) (hops_given hops)

-- they were written, if the hops are a route, unless memory ran out
abbrev pub TellsOddsOf : LgmAttempt → Rows → Entries → List LgmHop → ℕ → ℕ → ℕ → Type 0
TellsOddsOf attempt rows entries hops status old new =
    (IsRoute hops × (((status ≡ 0) × (new ≡ odds_told attempt rows entries hops)) ⊎ ((status ≡ no_memory) × (new ≡ old))))
    ⊎ ((¬ IsRoute hops) × (status ≡ number_of (faults.Argument wrong.Hops)) × (new ≡ old))

-- unless an argument is wrong
abbrev pub TellsOddsIf : Option ArgumentFault → LgmAttempt → Rows → Entries → List LgmHop → ℕ → ℕ → ℕ → Type 0
TellsOddsIf (Some fault) attempt rows entries hops status old new = (status ≡ number_of (faults.Argument fault)) × (new ≡ old)
TellsOddsIf None attempt rows entries hops status old new = TellsOddsOf attempt rows entries hops status old new

abbrev pub TellsOddsIn : LgmAttempt → Rows → Entries → List LgmHop → ℕ → ℕ → ℕ → Type 0
TellsOddsIn attempt =
    TellsOddsIf (wrong_argument (overlay_given attempt.edges.now attempt.limits.now attempt.silent.now)) attempt

-- so it is with the map of a handle
abbrev pub TellsOdds : LgmAttempt → Option MapState → Entries → List LgmHop → ℕ → ℕ → ℕ → Type 0
TellsOdds attempt None entries hops status old new = (status ≡ number_of faults.Closed) × (new ≡ old)
TellsOdds attempt (Some state) entries hops status old new = TellsOddsIn attempt state.rows entries hops status old new
