-- When a route is searched for, and what the search for an attempt gives.
use Rattle.std.proofs.Common.{◌≡◌, ℕ, Bool, true, false, List, length, Option, Some, None, Result, Ok, Err}
use Rattle.std.proofs.Common.{inl, inr, refl, sym, ap, subst, ◌∙◌, nat_lt, arith}
use Rattle.std.specs.Prelude.{if◌then◌else◌, All}
use Rattle.std.specs.Result.{IsErrAnd}
use Rattle.lgm_graph.specs.declared.route.Hop.{Hop}
use Rattle.lgm_graph.specs.Edges.{PointEdge, AreKeyed}
use Rattle.lgm_graph.specs.Overlay.{IsNeutral}
use Rattle.lgm_route.specs.Answers.{refusal}
use Rattle.lgm_route.specs.Choice.{answer_of, found_by}
use Rattle.lgm_route.specs.Preferred.{penalty_at, preferred_answer, preferred_walk, no_limits, IsRouteBy, IsCutShort, IsUsedUp, IsBeyond, HasNoPenalty, NothingPreferred}
use Rattle.lgm_route.specs.Preferred as routes
use Rattle.lgm_route.specs.declared.preferences.Preferences.{Preferences}
use Rattle.lgm_route.specs.declared.search.Search.{Search}
use Rattle.lgm_graph.specs.Estimates.{Entries}
use Rattle.lgm_route.specs.declared.limits.RouteLimits.{RouteLimits}
use Rattle.lgm_route.specs.declared.request.Request.{Request}
use Rattle.lgm_route.specs.declared.fault.RouteFault.{RouteFault}
use Rattle.lgm_route.specs.declared.found.Found.{Found}
use Rattle.lgm_route.specs.declared.found.SearchFault.{SearchFault}
use Rattle.lgm_route.specs.declared.found.SearchFault.TheVariants as searched
use Rattle.lgm_c.specs.declared.fault.Fault.{Fault}
use Rattle.lgm_c.specs.declared.fault.Fault.TheVariants as faults
use Rattle.lgm_c.specs.declared.routes.LgmPayment.{LgmPayment}
use Rattle.lgm_store.specs.Rows.{Rows}
use Rattle.lgm_c.specs.declared.argument_fault.ArgumentFault.{ArgumentFault}
use Rattle.lgm_c.specs.Attempts.{AttemptParts, plain_attempt, edges_for, answer_for, route_over, unless_wrong, wrong_argument, first_fault, unsearched, MayStop}
use Rattle.lgm_c.specs.Routing.{found_or_unrouted, routed_in, route_asked, IsSearched}
use Rattle.lgm_c.specs.Status.{unrouted, unfound}
use Rattle.lgm_c.specs.inner.Searching.{IsFound, IsRouted}

module _ (penalty : PointEdge → ℕ → ℕ) (limits : RouteLimits) (edges : List PointEdge) (request : Request) where
  -- a request that is refused whatever the edges are needs no search
  refused_at_once : (reason : RouteFault) → refusal request ≡ Some reason
      → preferred_answer penalty limits edges request ≡ Err reason
  unfolding preferred_answer
  refused_at_once reason is = rw is refl

  -- for any other a route is searched for
  searched_by : (walk : Option (List PointEdge)) → IsSearched (found_or_unrouted (found_by request walk))
  searched_by (Some walk) = tt
  searched_by None = refl

  searches : refusal request ≡ None → IsSearched (found_or_unrouted (preferred_answer penalty limits edges request))
  unfolding preferred_answer
  searches is = rw is (searched_by (preferred_walk penalty limits edges request))

module _ (attempt : AttemptParts) (known : Option (List ℕ)) (rows : Rows) where
  abbrev edges : List PointEdge
  edges = edges_for attempt known rows

  abbrev penalty : PointEdge → ℕ → ℕ
  penalty = penalty_at attempt.preferences attempt.known

  abbrev answer : Result (List Hop) RouteFault
  answer = answer_for attempt edges

  abbrev is_full : Bool
  is_full = nat_lt 2000000000 (length rows.channels)

  -- a fault that is returned whatever the edges are is that of the answer
  pub refuses_at_once : (fault : Fault) → unsearched attempt rows ≡ Some fault → route_over attempt known rows ≡ Err fault
  refuses_at_once fault is = by (wrong_argument attempt.overlay) is_full (refusal attempt.request) refl is
    where
      by : (argument : Option ArgumentFault) (full : Bool) (refused : Option RouteFault) → refusal attempt.request ≡ refused
          → first_fault argument full refused ≡ Some fault
          → unless_wrong argument (if full then Err faults.Full else found_or_unrouted answer) ≡ Err fault
      by (Some own) full refused r is = let same : faults.Argument own ≡ fault = cc in ap Err same
      by None true refused r is = let same : faults.Full ≡ fault = cc in ap Err same
      by None false (Some reason) r is =
          let same : unrouted reason ≡ fault = cc in
          ap found_or_unrouted (refused_at_once penalty attempt.limits edges attempt.request reason r) ∙ ap Err same
      by None false None r is = absurd cc

  -- and what a call gives then
  pub gives_refusal : (fault : Fault) → unsearched attempt rows ≡ Some fault → (result : Result Found Fault)
      → IsErrAnd result (λ f. f ≡ fault) → IsRouted attempt known rows result
  gives_refusal fault is (Ok found) err = absurd err
  gives_refusal fault is (Err f) err = inl (refuses_at_once fault is ∙ ap (λ (f : Fault). let e : Result (List Hop) Fault = Err f in e) (sym err))

  -- without one a route is searched for
  module _ (right : unsearched attempt rows ≡ None) where
    fits_and_lawful : (route_over attempt known rows ≡ found_or_unrouted answer) × (refusal attempt.request ≡ None)
    fits_and_lawful = by (wrong_argument attempt.overlay) is_full (refusal attempt.request) right
      where
        by : (argument : Option ArgumentFault) (full : Bool) (refused : Option RouteFault) → first_fault argument full refused ≡ None
            → (unless_wrong argument (if full then Err faults.Full else found_or_unrouted answer) ≡ found_or_unrouted answer) × (refused ≡ None)
        by (Some own) full refused is = absurd cc
        by None true refused is = absurd cc
        by None false (Some reason) is = absurd cc
        by None false None is = (refl, refl)

    fits : route_over attempt known rows ≡ found_or_unrouted answer
    fits = fits_and_lawful.0

    pub lawful : refusal attempt.request ≡ None
    lawful = fits_and_lawful.1

    pub is_to_search : IsSearched (route_over attempt known rows)
    is_to_search = subst IsSearched (sym fits) (searches penalty attempt.limits edges attempt.request lawful)

    -- the route that was found
    pub gives_found : (result : Result Found SearchFault) (found : Found) → result ≡ Ok found → IsFound attempt known rows result
        → IsRouted attempt known rows (Ok found)
    gives_found result found was given = either found.is_best refl
      where
        is : IsFound attempt known rows (Ok found)
        is = subst (IsFound attempt known rows) was given

        either : (best : Bool) → found.is_best ≡ best → IsRouted attempt known rows (Ok found)
        either true best = inl (best, fits ∙ ap found_or_unrouted (sym (is.answer.0 best)))
        either false not = inr (not, is_to_search, is.stops not, is.answer.1)

    -- why there is none
    fault_given : (fault : SearchFault) → IsFound attempt known rows (Err fault)
        → IsRouted attempt known rows (Err (unfound fault))
    fault_given searched.Undecided is = inr (inr (is_to_search, is.stops tt, refl))
    fault_given (searched.Fault reason) is =
        elim is.answer [
          | inl none ↦ inr (inl (is_to_search, ap unrouted none))
          | inr none ↦ inl (fits ∙ ap found_or_unrouted (sym none))
        ]

    pub gives_fault : (found : Result Found SearchFault) (fault : SearchFault) (result : Result Found Fault)
        → found ≡ Err fault → IsFound attempt known rows found → IsErrAnd result (λ f. f ≡ unfound fault)
        → IsRouted attempt known rows result
    gives_fault found fault (Ok other) was is err = absurd err
    gives_fault found fault (Err f) was is err =
        subst (λ f. IsRouted attempt known rows (Err f)) (sym err)
        (fault_given fault (subst (IsFound attempt known rows) was is))

    -- and so did one that didn't get to it
    pub short_of_memory : (result : Result Found Fault) → IsErrAnd result (λ fault. fault ≡ faults.NoMemory)
        → IsRouted attempt known rows result
    short_of_memory (Ok found) err = absurd err
    short_of_memory (Err fault) err = inr (inl (is_to_search, err))

-- ---- over the map alone

-- the walk that sends least of all is within no limits
never_beyond : (all : List PointEdge) (request : Request) → IsBeyond no_limits all request → ⊥
never_beyond all request (walk, least, beyond) = beyond (record { short = least.usable.few; in_time = tt })

module _ (payment : LgmPayment) (known : Option (List ℕ)) (rows : Rows) where
  abbrev plain : AttemptParts
  plain = plain_attempt payment

  -- the search never stops
  pub never_stops : MayStop plain known rows → ⊥
  never_stops stops =
      never_beyond (edges_for plain known rows) plain.request (stops.beyond (record { preferences = refl; known = λ i d within. absurd (omega arith) }))

  -- its answer is that of the map's edges
  pub is_asked : NothingPreferred → IsNeutral → AreKeyed (edges_for plain known rows)
      → route_over plain known rows ≡ route_asked payment known rows
  is_asked nothing neutral keyed =
      ap (routed_in rows) (nothing (edges_for plain known rows) plain.request keyed
      ∙ ap (λ all. answer_of all plain.request) (neutral known rows))

-- what a search returns that is made as an attempt says
module _ (attempt : AttemptParts) (known : Option (List ℕ)) (rows : Rows) (search : Search)
    (preferences : search.preferences ≡ attempt.preferences) (believed : search.estimates.now ≡ attempt.known)
    (limits : search.limits ≡ attempt.limits) (budget : search.budget ≡ attempt.budget) where
  -- over some edges for some payment
  abbrev Answered : Preferences → Entries → RouteLimits → List PointEdge → Request → Result Found SearchFault → Type 0
  Answered preferences believed limits edges request result =
      IsRouteBy (λ answer. answer ≡ preferred_answer (penalty_at preferences believed) limits edges request) limits edges request result

  pub found_as : (edges : List PointEdge) (request : Request) (result : Result Found SearchFault)
      → edges ≡ edges_for attempt known rows → request ≡ attempt.request
      → Answered search.preferences search.estimates.now search.limits edges request result
      → (IsCutShort result → IsUsedUp search.limits edges request search.budget)
      → (routes.PrefersNothing search → IsCutShort result → IsBeyond search.limits edges request)
      → IsFound attempt known rows result
  found_as edges request result same asked is used beyond = record {
    answer = subst (λ p. Answered p attempt.known attempt.limits (edges_for attempt known rows) attempt.request result) preferences
        (subst (λ k. Answered search.preferences k attempt.limits (edges_for attempt known rows) attempt.request result) believed
        (subst (λ l. Answered search.preferences search.estimates.now l (edges_for attempt known rows) attempt.request result) limits
        (subst (λ e. Answered search.preferences search.estimates.now search.limits e attempt.request result) same
        (subst (λ r. Answered search.preferences search.estimates.now search.limits edges r result) asked is))));
    stops = λ cut. record {
      used_up = subst (λ l. IsUsedUp l (edges_for attempt known rows) attempt.request attempt.budget) limits
          (subst (λ b. IsUsedUp search.limits (edges_for attempt known rows) attempt.request b) budget
          (subst (λ e. IsUsedUp search.limits e attempt.request search.budget) same
          (subst (λ r. IsUsedUp search.limits edges r search.budget) asked (used cut))));
      beyond = λ none. subst (λ l. IsBeyond l (edges_for attempt known rows) attempt.request) limits
          (subst (λ e. IsBeyond search.limits e attempt.request) same
          (subst (λ r. IsBeyond search.limits edges r) asked (beyond (record {
            preferences = preferences ∙ none.preferences;
            known = subst (All HasNoPenalty) (sym believed) none.known;
          }) cut)));
    };
  }
