-- What a search found, as the answer of a call.
use Rattle.std.proofs.Common.{◌≡◌, ℕ, ◌+◌, ◌≤◌, ◌⊎◌, Bool, true, false, List, [], ◌∷◌, length, refl, sym, ◌∙◌, ap, subst, inl, inr, arith}
use Rattle.std.specs.Prelude.{nat_le, ◌&&◌, Option, Some, None, Result, Ok, Err}
use Rattle.std.specs.List.{position}
use Rattle.std.proofs.lemmas.Bool.{false≢true, and_parts}
use Rattle.std.proofs.lemmas.Option.{slice_get-get_or}
use Rattle.lgm_wire.specs.declared.point.Point.{Point}
use Rattle.lgm_store.specs.Rows.{is_point}
use Rattle.lgm_graph.specs.Edges.{PointEdge}
use Rattle.lgm_graph.specs.Estimates.{Entries}
use Rattle.lgm_graph.specs.Graph.{Graph, edges, point_edges, no_point, AreListed}
use Rattle.lgm_graph.specs.Route.{expiry}
use Rattle.lgm_graph.specs.declared.edge.Edge.{Edge}
use Rattle.lgm_graph.specs.declared.route.Hop.{Hop}
use Rattle.lgm_route.specs.declared.request.Request.{Request}
use Rattle.lgm_route.specs.declared.limits.RouteLimits.{RouteLimits}
use Rattle.lgm_route.specs.declared.fault.RouteFault.{RouteFault}
use Rattle.lgm_route.specs.declared.fault.RouteFault.TheVariants.{NoRoute, NoMemory}
use Rattle.lgm_route.specs.declared.found.Found.{Found}
use Rattle.lgm_route.specs.declared.found.SearchFault.{SearchFault}
use Rattle.lgm_route.specs.declared.found.SearchFault.TheVariants.{Fault, Undecided}
use Rattle.lgm_route.specs.Answers.{refusal, IsAnswer, IsAnswerBy}
use Rattle.lgm_route.specs.Routes.{due, hops_of}
use Rattle.lgm_route.specs.Preferred.{delay, no_limits, IsFoundBy, IsPreferredBy, IsPreferredAnswer, IsCutShort, IsUsedUp}
use Rattle.lgm_route.specs.Preferred.{penalty_at, is_in_time, is_within, IsSomeRoute, IsRouteBy, IsBeyond}
use Rattle.lgm_route.specs.inner.Numbered as walks
use Rattle.lgm_route.specs.Odds.{penalty_by}
use Rattle.lgm_route.specs.declared.preferences.Preferences.{Preferences}
use Rattle.lgm_route.specs.inner.Numbered.{Ask, Terms, known_from}
use Rattle.lgm_route.specs.inner.Best.{AreAlike, IsFree, free, edges_in, ask_of, is_timely, hops_within, IsWalkFound, is_settled, certain, any_budget}
use Rattle.lgm_route.proofs.PointWalkLaws.{usable_over, within_over, least_over, none_over}
use Rattle.lgm_route.proofs.WalkOrderLaws.{found_free, within_none}
use Rattle.lgm_route.proofs.HopLaws.{length_hops}
use Rattle.lgm_route.proofs.PreferredLaws.{true_within, within_true}
use Rattle.lgm_route.proofs.ChoiceLaws.{le_true, true_le}

-- ---- a walk between numbered nodes as a route

module _ (graph : Graph) (listed : AreListed graph) (request : Request) (payer payee : ℕ)
    (payer_is : position (is_point request.payer) graph.points ≡ Some payer)
    (payee_is : position (is_point request.payee) graph.points ≡ Some payee) (limits : RouteLimits)
    (terms : Option Terms) (penalty : PointEdge → ℕ → ℕ) (alike : AreAlike graph terms penalty)
    (allowed : refusal request ≡ None) where
  abbrev ask : Ask
  ask = ask_of payer payee request limits terms

  pub some_route : (walk : List Edge) (hops : List Hop) → walks.IsUsable (edges graph) ask walk
      → hops ≡ hops_of request (edges_in graph walk) → IsSomeRoute limits (point_edges graph) request hops
  some_route walk hops usable are = (
    edges_in graph walk,
    usable_over graph listed request payer payee payer_is payee_is limits terms walk usable,
    within_over graph listed request payer payee payer_is payee_is limits terms walk usable,
    are,
  )

  pub best_route : (walk : List Edge) (hops : List Hop) → walks.IsLeast (edges graph) ask walk
      → hops ≡ hops_of request (edges_in graph walk) → IsPreferredAnswer penalty limits (point_edges graph) request (Ok hops)
  best_route walk hops least are =
      subst (λ o. IsPreferredBy o penalty limits (point_edges graph) request (Ok hops)) (sym allowed)
      (edges_in graph walk, least_over graph listed request payer payee payer_is payee_is limits terms penalty alike walk least, are)

  pub no_route : ((walk : List Edge) → walks.IsUsable (edges graph) ask walk → ⊥)
      → IsPreferredAnswer penalty limits (point_edges graph) request (Err NoRoute)
  no_route none =
      subst (λ o. IsPreferredBy o penalty limits (point_edges graph) request (Err NoRoute)) (sym allowed)
      (refl, none_over graph listed request payer payee payer_is payee_is limits terms none)

  -- a search that found no walk
  pub walk_fault : (fault : SearchFault) → IsWalkFound (edges graph) ask (Err fault)
      → IsRouteBy (IsPreferredAnswer penalty limits (point_edges graph) request) limits (point_edges graph) request (Err fault)
  walk_fault Undecided is = allowed
  walk_fault (Fault fault) (inl e) = inl e
  walk_fault (Fault fault) (inr none) =
      inr (subst (λ f. IsPreferredAnswer penalty limits (point_edges graph) request (Err f)) (sym none.0) (no_route none.1))

-- the penalties of what a payer prefers
pub weights_alike : (graph : Graph) (preferences : Preferences) (known : Entries) → AreAlike graph (Some (record {
  failure = preferences.failure_msat;
  hop = preferences.hop_msat;
  points = graph.points;
  known = known;
})) (penalty_at preferences known)
weights_alike graph preferences known edge numbered amount =
    ap (λ (o : Option Point). penalty_by preferences.failure_msat preferences.hop_msat (known_from known edge.scid o) edge.max amount)
    (slice_get-get_or graph.points edge.from no_point numbered)

-- ---- a route within the limits

-- an expiry is the delay above that of the payee
due_from : (height : ℕ) (walk : List PointEdge) → due height walk ≡ height + due 0 walk
due_from height [] = omega arith
due_from height (edge ∷ rest) = omega (arith, due_from height rest)

bool_same : (b c : Bool) → (b ≡ true → c ≡ true) → (c ≡ true → b ≡ true) → b ≡ c
bool_same true true f g = refl
bool_same false false f g = refl
bool_same true false f g = sym (f refl)
bool_same false true f g = g refl

le_same : (a b c d : ℕ) → (a ≤ b → c ≤ d) → (c ≤ d → a ≤ b) → nat_le a b ≡ nat_le c d
le_same a b c d f g =
    bool_same (nat_le a b) (nat_le c d) (λ h. le_true c d (f (true_le a b h))) (λ h. le_true a b (g (true_le c d h)))

timely_same : (most : Option ℕ) (request : Request) (walk : List PointEdge) (hops : List Hop) → hops ≡ hops_of request walk
    → 1 ≤ length walk → is_timely most request.expiry hops ≡ is_in_time most walk
timely_same None request walk hops are some = refl
timely_same (Some most) request [] hops are some = absurd (omega arith)
timely_same (Some most) request (edge ∷ rest) hops are some =
    let due : expiry hops ≡ request.expiry + due 0 rest = ap expiry are ∙ due_from request.expiry rest in
    le_same (expiry hops) (request.expiry + most) (delay (edge ∷ rest)) most (λ h. omega (arith, h, due)) (λ h. omega (arith, h, due))

hops_same : (limits : RouteLimits) (request : Request) (walk : List PointEdge) (hops : List Hop) → hops ≡ hops_of request walk
    → 1 ≤ length walk → hops_within limits request.expiry hops ≡ is_within limits walk
hops_same limits request walk hops are some =
    let long : length hops ≡ length walk = ap length are ∙ length_hops request walk in
    ap (λ n. nat_le n limits.most_hops && is_timely limits.most_delay request.expiry hops) long
    ∙ ap (λ b. nat_le (length walk) limits.most_hops && b) (timely_same limits.most_delay request walk hops are some)

-- ---- the best of all, if it is within the limits

narrowed : (penalty : PointEdge → ℕ → ℕ) (limits : RouteLimits) (edges : List PointEdge) (request : Request) (hops : List Hop)
    → IsFoundBy penalty no_limits edges request (Ok hops) → hops_within limits request.expiry hops ≡ true
    → IsFoundBy penalty limits edges request (Ok hops)
narrowed penalty limits edges request hops found within = (
  found.0,
  record {
    usable = found.1.usable;
    within = true_within limits found.0 (sym (hops_same limits request found.0 hops found.2 found.1.usable.some) ∙ within);
    first = λ other able also. found.1.first other able (within_none edges request other able);
  },
  found.2,
)

pub answer_narrowed : (penalty : PointEdge → ℕ → ℕ) (limits : RouteLimits) (edges : List PointEdge) (request : Request) (hops : List Hop)
    → IsPreferredAnswer penalty no_limits edges request (Ok hops) → hops_within limits request.expiry hops ≡ true
    → IsPreferredAnswer penalty limits edges request (Ok hops)
answer_narrowed penalty limits edges request hops is within = by (refusal request) is
  where
    by : (o : Option RouteFault) → IsPreferredBy o penalty no_limits edges request (Ok hops) → IsPreferredBy o penalty limits edges request (Ok hops)
    by (Some fault) is = is
    by None is = narrowed penalty limits edges request hops is within

-- if no walk is usable, none within the limits is
pub fault_narrowed : (penalty : PointEdge → ℕ → ℕ) (limits : RouteLimits) (edges : List PointEdge) (request : Request) (fault : RouteFault)
    → IsPreferredAnswer penalty no_limits edges request (Err fault) → IsPreferredAnswer penalty limits edges request (Err fault)
fault_narrowed penalty limits edges request fault is = by (refusal request) is
  where
    by : (o : Option RouteFault) → IsPreferredBy o penalty no_limits edges request (Err fault) → IsPreferredBy o penalty limits edges request (Err fault)
    by (Some other) is = is
    by None is = (is.0, λ walk able within. is.1 walk able (within_none edges request walk able))

-- a usable walk within no limits is one within these
pub some_narrowed : (limits : RouteLimits) (edges : List PointEdge) (request : Request) (hops : List Hop)
    → IsSomeRoute no_limits edges request hops → hops_within limits request.expiry hops ≡ true → IsSomeRoute limits edges request hops
some_narrowed limits edges request hops is within = (
  is.0,
  is.1,
  true_within limits is.0 (sym (hops_same limits request is.0 hops is.3 is.1.some) ∙ within),
  is.3,
)

-- what was found without limits is the answer within these, if it is settled
pub answer_settled : (penalty : PointEdge → ℕ → ℕ) (limits : RouteLimits) (edges : List PointEdge) (request : Request)
    (first : Result Found SearchFault) → is_settled limits request.expiry first ≡ true
    → IsRouteBy (IsPreferredAnswer penalty no_limits edges request) no_limits edges request first
    → IsRouteBy (IsPreferredAnswer penalty limits edges request) limits edges request first
answer_settled penalty limits edges request (Ok found) settled is =
    let within = (and_parts found.is_best (hops_within limits request.expiry found.route) settled).1 in (
      λ best. answer_narrowed penalty limits edges request found.route (is.0 best) within,
      some_narrowed limits edges request found.route is.1 within,
      is.2,
    )
answer_settled penalty limits edges request (Err Undecided) settled is = absurd (false≢true settled)
answer_settled penalty limits edges request (Err (Fault fault)) settled (inl e) = inl e
answer_settled penalty limits edges request (Err (Fault fault)) settled (inr is) =
    inr (fault_narrowed penalty limits edges request fault is)

-- and not cut short
pub settled_whole : (limits : RouteLimits) (height : ℕ) (first : Result Found SearchFault) → is_settled limits height first ≡ true
    → IsCutShort first → ⊥
settled_whole limits height (Ok found) settled cut =
    false≢true (sym cut ∙ (and_parts found.is_best (hops_within limits height found.route) settled).0)
settled_whole limits height (Err Undecided) settled cut = false≢true settled
settled_whole limits height (Err (Fault fault)) settled cut = cut

-- ---- without penalties

-- the answer of a payer that prefers nothing is the one of the walk that sends least
answer_plain : (penalty : PointEdge → ℕ → ℕ) → IsFree penalty → (edges : List PointEdge) (request : Request)
    (answer : Result (List Hop) RouteFault) → IsPreferredAnswer penalty no_limits edges request answer → IsAnswer edges request answer
answer_plain penalty free edges request answer is = by (refusal request) is
  where
    by : (o : Option RouteFault) → IsPreferredBy o penalty no_limits edges request answer → IsAnswerBy o edges request answer
    by (Some fault) is = is
    by None is = found_free penalty free edges request answer is

sure_best : (found : Found) → (IsCutShort (Ok found) → ⊥) → found.is_best ≡ true
sure_best found sure = elim found.is_best as (λ b. (b ≡ false → ⊥) → b ≡ true) [ true ↦ λ no. refl | false ↦ λ no. absurd (no refl) ] sure

-- where the budget can't run out
pub plain_found : (edges : List PointEdge) (request : Request) (found : Result Found SearchFault)
    → IsRouteBy (IsPreferredAnswer free no_limits edges request) no_limits edges request found → (IsCutShort found → ⊥)
    → (certain found ≡ Err NoMemory) ⊎ IsAnswer edges request (certain found)
plain_found edges request (Ok found) is sure =
    inr (answer_plain free (λ edge amount. refl) edges request (Ok found.route) (is.0 (sure_best found sure)))
plain_found edges request (Err Undecided) is sure = absurd (sure tt)
plain_found edges request (Err (Fault fault)) (inl e) sure = inl (ap Err e)
plain_found edges request (Err (Fault fault)) (inr is) sure = inr (answer_plain free (λ edge amount. refl) edges request (Err fault) is)

-- the walk that sends least isn't within the limits
plain_beyond : (limits : RouteLimits) (edges : List PointEdge) (request : Request) (hops : List Hop) → IsAnswer edges request (Ok hops)
    → hops_within limits request.expiry hops ≡ false → IsBeyond limits edges request
plain_beyond limits edges request hops is beyond = by (refusal request) is
  where
    by : (o : Option RouteFault) → IsAnswerBy o edges request (Ok hops) → IsBeyond limits edges request
    by (Some fault) is = absurd cc
    by None is = (
      is.0,
      is.1,
      λ within. false≢true (sym beyond ∙ hops_same limits request is.0 hops is.2 is.1.usable.some ∙ within_true limits is.0 within),
    )

-- so it is if what was found without limits isn't settled, and not cut short
pub open_beyond : (penalty : PointEdge → ℕ → ℕ) → IsFree penalty → (limits : RouteLimits) (edges : List PointEdge) (request : Request)
    (first : Result Found SearchFault) → is_settled limits request.expiry first ≡ false → (IsCutShort first → ⊥)
    → IsRouteBy (IsPreferredAnswer penalty no_limits edges request) no_limits edges request first → IsBeyond limits edges request
open_beyond penalty free limits edges request (Ok found) unsettled sure is =
    let best = sure_best found sure in
    plain_beyond limits edges request found.route
    (answer_plain penalty free edges request (Ok found.route) (is.0 best))
    (ap (λ b. b && hops_within limits request.expiry found.route) (sym best) ∙ unsettled)
open_beyond penalty free limits edges request (Err Undecided) unsettled sure is = absurd (sure tt)
open_beyond penalty free limits edges request (Err (Fault fault)) unsettled sure is = absurd (false≢true (sym unsettled))

-- any number of labels and steps is never used up
pub any_lasts : (limits : RouteLimits) (edges : List PointEdge) (request : Request) → IsUsedUp limits edges request any_budget → ⊥
any_lasts limits edges request (inl is) = omega (arith, is.0)
any_lasts limits edges request (inr is) = omega (arith, is.0)
