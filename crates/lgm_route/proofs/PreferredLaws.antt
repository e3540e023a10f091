-- Exhaustive search finds the best walk by penalties, within limits, which is unique.
use Rattle.std.proofs.Common.{◌≡◌, ◌≢◌, ◌⊎◌, ℕ, ◌+◌, ◌-◌, ◌*◌, ◌/◌, ◌^◌, ◌<◌, ◌≤◌, if◌then◌else◌, inl, inr, min, true, List, [], ◌∷◌, length, refl, sym, ◌∙◌, ap, subst, arith}
use Rattle.std.specs.Prelude.{nat_le, Option, Some, None, IfSome, Result, Ok, Err}
use Rattle.std.specs.List.{All, fold}
use Rattle.std.specs.Option.{unwrap_or}
use Rattle.std.proofs.lemmas.Map.Entries.{All-lookup}
use Rattle.std.specs.List.Sorted.{IsPermutation}
use Rattle.std.proofs.lemmas.List.Sums.{sum_by-le-sum_by}
use Rattle.std.proofs.lemmas.List.Sorted.{sum_by-IsPermutation}
use Rattle.std.proofs.Math.Nat.{min-le_left, min-le_right}
use Rattle.std.proofs.lemmas.Bool.{and_parts}
use Rattle.lgm_store.specs.Rows.{is_point}
use Rattle.lgm_graph.specs.Edges.{PointEdge, AreKeyed}
use Rattle.lgm_graph.specs.Estimates.{Entries, estimate_of, known_of, is_key, no_estimate}
use Rattle.lgm_graph.specs.declared.estimate.Estimate.{Estimate}
use Rattle.lgm_graph.specs.declared.route.Hop.{Hop}
use Rattle.lgm_graph.proofs.Members.{Among, Among-passes, Among-passed}
use Rattle.lgm_route.specs.declared.request.Request.{Request}
use Rattle.lgm_route.specs.declared.limits.RouteLimits.{RouteLimits}
use Rattle.lgm_route.specs.declared.limits.SearchBudget.{SearchBudget}
use Rattle.lgm_route.specs.declared.preferences.Preferences.{Preferences}
use Rattle.lgm_route.specs.declared.search.Search.{Search}
use Rattle.lgm_route.specs.declared.fault.RouteFault.{RouteFault}
use Rattle.lgm_route.specs.declared.found.Found.{Found}
use Rattle.lgm_route.specs.declared.found.SearchFault.{SearchFault}
use Rattle.lgm_route.specs.declared.found.SearchFault.TheVariants.{Fault, Undecided}
use Rattle.lgm_route.specs.Routes.{hops_of, IsUsable}
use Rattle.lgm_route.specs.Answers.{refusal, IsAnswerBy}
use Rattle.lgm_route.specs.Odds.{odds}
use Rattle.lgm_route.specs.Choice.{usable_walks, lesser, least_of, found_by, answer_by, answer_of}
use Rattle.lgm_route.specs.Preferred.{delay, IsInTime, IsWithin, no_limits, penalty_at, worth_key, IsPreferred, IsFoundBy}
use Rattle.lgm_route.specs.Preferred.{IsPreferredBy, IsPreferredAnswer, is_in_time, is_within, walks_within, preferred_walk, preferred_answer}
use Rattle.lgm_route.specs.Preferred.{start_of, rests_at, steps_at, steps_of, IsRouteBy, IsRestWithin, IsUsedUp, IsBeyond, no_preferences, HasNoPenalty, PrefersNothing, penalty_for}
use Rattle.lgm_route.specs.inner.Best.{IsFree}
use Rattle.lgm_route.proofs.Orders.{NotAfter-excludes}
use Rattle.lgm_route.proofs.Rests.{penalty_at-rises}
use Rattle.lgm_route.proofs.WalkOrderLaws.{free_found}
use Rattle.lgm_route.proofs.Visits.{Rises, preferred-unique}
use Rattle.lgm_route.proofs.ChoiceLaws.{le_true, true_le, usable_found, found_usable, folded, NoneBefore, point_apart, tried, HaveSame, same-permuted, rest_over, usable_over}

-- ---- the walks within the limits

time_true : (most : Option ℕ) (walk : List PointEdge) → IsInTime most walk → is_in_time most walk ≡ true
time_true None walk h = refl
time_true (Some most) walk h = le_true (delay walk) most h

true_time : (most : Option ℕ) (walk : List PointEdge) → is_in_time most walk ≡ true → IsInTime most walk
true_time None walk h = tt
true_time (Some most) walk h = true_le (delay walk) most h

pub within_true : (limits : RouteLimits) (walk : List PointEdge) → IsWithin limits walk → is_within limits walk ≡ true
within_true limits walk h =
    let short = le_true (length walk) limits.most_hops h.short in
    rw (short, time_true limits.most_delay walk h.in_time) refl

pub true_within : (limits : RouteLimits) (walk : List PointEdge) → is_within limits walk ≡ true → IsWithin limits walk
true_within limits walk h =
    let p = and_parts (nat_le (length walk) limits.most_hops) (is_in_time limits.most_delay walk) h in
    record { short = true_le (length walk) limits.most_hops p.0; in_time = true_time limits.most_delay walk p.1 }

within_found : (limits : RouteLimits) (edges : List PointEdge) (request : Request) (walk : List PointEdge) → IsUsable edges request walk
    → IsWithin limits walk → Among (walks_within limits edges request) walk
within_found limits edges request walk usable within =
    Among-passes (is_within limits) (usable_walks edges request) walk (usable_found edges request walk usable)
    (within_true limits walk within)

found_within : (limits : RouteLimits) (edges : List PointEdge) (request : Request) (walk : List PointEdge)
    → Among (walks_within limits edges request) walk → IsUsable edges request walk × IsWithin limits walk
found_within limits edges request walk there =
    let passed = Among-passed (is_within limits) (usable_walks edges request) walk there in
    (found_usable edges request walk passed.0, true_within limits walk passed.1)

-- ---- the best of them

preferred_found : (penalty : PointEdge → ℕ → ℕ) (limits : RouteLimits) (edges : List PointEdge) (request : Request)
    (walks : List (List PointEdge)) → walks ≡ walks_within limits edges request
    → IsFoundBy penalty limits edges request (found_by request (least_of (worth_key penalty request) walks))
preferred_found penalty limits edges request [] same =
    (refl, λ walk usable within. subst (λ ws. Among ws walk) (sym same) (within_found limits edges request walk usable within))
preferred_found penalty limits edges request (walk ∷ walks) same =
    (best, record { usable = able.0; within = able.1; first = first }, refl)
  where
    best : List PointEdge
    best = fold (lesser (worth_key penalty request)) walk walks

    is : Among (walk ∷ walks) best × NoneBefore (worth_key penalty request) best (walk ∷ walks)
    is = folded (worth_key penalty request) walk walks

    able : IsUsable edges request best × IsWithin limits best
    able = found_within limits edges request best (subst (λ ws. Among ws best) same is.0)

    first : (other : List PointEdge) → IsUsable edges request other → IsWithin limits other → IsPreferred penalty request other best → ⊥
    first other usable within before =
        NotAfter-excludes (worth_key penalty request best) (worth_key penalty request other) (is.1 other
        (subst (λ ws. Among ws other) (sym same) (within_found limits edges request other usable within))) before

-- exhaustive search returns an answer
pub preferred_tried : (penalty : PointEdge → ℕ → ℕ) (limits : RouteLimits) (edges : List PointEdge) (request : Request)
    → IsPreferredAnswer penalty limits edges request (preferred_answer penalty limits edges request)
unfolding preferred_answer preferred_walk
preferred_tried penalty limits edges request = by (refusal request)
  where
    by : (refused : Option RouteFault) → IsPreferredBy refused penalty limits edges request
        (answer_by refused request (preferred_walk penalty limits edges request))
    by (Some fault) = refl
    by None = preferred_found penalty limits edges request (walks_within limits edges request) refl

both_found : (penalty : PointEdge → ℕ → ℕ) → Rises penalty → (limits : RouteLimits) (edges : List PointEdge) (request : Request)
    (answer other : Result (List Hop) RouteFault) → AreKeyed edges → request.payer ≢ request.payee →
    IsFoundBy penalty limits edges request answer → IsFoundBy penalty limits edges request other → answer ≡ other
both_found penalty rises limits edges request (Ok hops) (Ok hops') keyed apart found also =
    let same = preferred-unique penalty rises limits edges request found.0 also.0 keyed apart found.1 also.1 in
    ap Ok (found.2 ∙ ap (hops_of request) same ∙ sym also.2)
both_found penalty rises limits edges request (Ok hops) (Err fault) keyed apart found also =
    absurd (also.1 found.0 found.1.usable found.1.within)
both_found penalty rises limits edges request (Err fault) (Ok hops) keyed apart found also =
    absurd (found.1 also.0 also.1.usable also.1.within)
both_found penalty rises limits edges request (Err fault) (Err fault') keyed apart found also = ap Err (found.0 ∙ sym also.0)

-- a request has one answer
answers-unique : (penalty : PointEdge → ℕ → ℕ) → Rises penalty → (limits : RouteLimits) (edges : List PointEdge) (request : Request)
    (answer other : Result (List Hop) RouteFault) → AreKeyed edges → IsPreferredAnswer penalty limits edges request answer
    → IsPreferredAnswer penalty limits edges request other → answer ≡ other
answers-unique penalty rises limits edges request answer other keyed is also = by (refusal request) refl is also
  where
    by : (refused : Option RouteFault) → refusal request ≡ refused → IsPreferredBy refused penalty limits edges request answer
        → IsPreferredBy refused penalty limits edges request other → answer ≡ other
    by (Some fault) e is also = is ∙ sym also
    by None e is also = both_found penalty rises limits edges request answer other keyed (point_apart request e) is also

pub preferred-one : (preferences : Preferences) (known : Entries) (limits : RouteLimits) (edges : List PointEdge) (request : Request)
    (answer : Result (List Hop) RouteFault) → AreKeyed edges
    → IsPreferredAnswer (penalty_at preferences known) limits edges request answer
    → answer ≡ preferred_answer (penalty_at preferences known) limits edges request
preferred-one preferences known limits edges request answer keyed is =
    answers-unique (penalty_at preferences known) (penalty_at-rises preferences known) limits edges request answer
    (preferred_answer (penalty_at preferences known) limits edges request) keyed is
    (preferred_tried (penalty_at preferences known) limits edges request)

-- ---- without preferences

known_free : (known : Option Estimate) → IfSome known (λ estimate. estimate.penalty ≡ 0) → (unwrap_or known no_estimate).penalty ≡ 0
known_free None none = refl
known_free (Some estimate) none = none

-- a payer that prefers nothing, and knows of no edge with a penalty, has no penalties
nothing_free : (known : Entries) → All HasNoPenalty known → IsFree (penalty_at no_preferences known)
nothing_free known none edge amount =
    let estimate = estimate_of known edge.scid edge.from in
    let flat : estimate.penalty ≡ 0 = known_free (known_of known edge.scid edge.from)
    (All-lookup (λ estimate. estimate.penalty ≡ 0) (is_key edge.scid edge.from) known none) in
    let room = min edge.max estimate.most - amount + 1 in
    let odd : odds 0 estimate.least (min edge.max estimate.most) amount ≤ 0 = min-le_left 0 (0 * (amount - estimate.least) / room) in
    omega (
      arith,
      flat,
      odd,
      min-le_right (2 ^ 40) (0 + estimate.penalty + odds 0 estimate.least (min edge.max estimate.most) amount),
    )

-- by how a route is sought
pub plain_free : (search : Search) → PrefersNothing search → IsFree (penalty_for search)
plain_free search is =
    subst (λ (p : Preferences). IsFree (penalty_at p search.estimates.now)) (sym is.preferences)
    (nothing_free search.estimates.now is.known)

pub nothing : (edges : List PointEdge) (request : Request) → AreKeyed edges
    → preferred_answer (penalty_at no_preferences []) no_limits edges request ≡ answer_of edges request
nothing edges request keyed =
    sym (preferred-one no_preferences [] no_limits edges request (answer_of edges request) keyed (by (refusal request) (tried edges request)))
  where
    by : (refused : Option RouteFault) → IsAnswerBy refused edges request (answer_of edges request)
        → IsPreferredBy refused (penalty_at no_preferences []) no_limits edges request (answer_of edges request)
    by (Some fault) is = is
    by None is = free_found (penalty_at no_preferences []) (nothing_free [] (λ i d few. absurd (omega arith))) edges request (answer_of edges request) is

-- ---- over the same edges in another order

found_over : (penalty : PointEdge → ℕ → ℕ) (limits : RouteLimits) (edges others : List PointEdge) (request : Request)
    (found : Result (List Hop) RouteFault) → HaveSame edges others → IsFoundBy penalty limits edges request found
    → IsFoundBy penalty limits others request found
found_over penalty limits edges others request (Ok hops) same is = (
  is.0,
  record {
    usable = usable_over edges others request is.0 (λ edge. (same edge).0) is.1.usable;
    within = is.1.within;
    first = λ other able within. is.1.first other (usable_over others edges request other (λ edge. (same edge).1) able) within;
  },
  is.2,
)
found_over penalty limits edges others request (Err fault) same is =
    (is.0, λ walk able. is.1 walk (usable_over others edges request walk (λ edge. (same edge).1) able))

answer_over : (penalty : PointEdge → ℕ → ℕ) (limits : RouteLimits) (edges others : List PointEdge) (request : Request)
    (answer : Result (List Hop) RouteFault) → HaveSame edges others → IsPreferredAnswer penalty limits edges request answer
    → IsPreferredAnswer penalty limits others request answer
answer_over penalty limits edges others request answer same is = by (refusal request) is
  where
    by : (refused : Option RouteFault) → IsPreferredBy refused penalty limits edges request answer
        → IsPreferredBy refused penalty limits others request answer
    by (Some fault) is = is
    by None is = found_over penalty limits edges others request answer same is

-- what a call returns over the edges of a graph is what it returns over those of the rows
pub route_reordered : (preferences : Preferences) (known : Entries) (limits : RouteLimits) (edges others : List PointEdge) (request : Request)
    (result : Result Found SearchFault) → AreKeyed others → IsPermutation others edges
    → IsRouteBy (IsPreferredAnswer (penalty_at preferences known) limits edges request) limits edges request result
    → IsRouteBy (λ answer. answer ≡ preferred_answer (penalty_at preferences known) limits others request) limits others request result
route_reordered preferences known limits edges others request result keyed order is = by result is
  where
    same : HaveSame edges others
    same = same-permuted edges others order

    one : (answer : Result (List Hop) RouteFault) → IsPreferredAnswer (penalty_at preferences known) limits edges request answer
        → answer ≡ preferred_answer (penalty_at preferences known) limits others request
    one answer is =
        preferred-one preferences known limits others request answer keyed
        (answer_over (penalty_at preferences known) limits edges others request answer same is)

    by : (result : Result Found SearchFault) → IsRouteBy (IsPreferredAnswer (penalty_at preferences known) limits edges request) limits edges request result
        → IsRouteBy (λ answer. answer ≡ preferred_answer (penalty_at preferences known) limits others request) limits others request result
    by (Ok found) is = (
      λ best. one (Ok found.route) (is.0 best),
      ((is.1).0, usable_over edges others request (is.1).0 (λ edge. (same edge).0) (is.1).1, (is.1).2, (is.1).3),
      is.2,
    )
    by (Err Undecided) is = is
    by (Err (Fault fault)) (inl e) = inl e
    by (Err (Fault fault)) (inr is) = inr (one (Err fault) is)

-- and a refused request
pub route_refused : (preferences : Preferences) (known : Entries) (limits : RouteLimits) (edges : List PointEdge) (request : Request)
    (fault : RouteFault) → AreKeyed edges → refusal request ≡ Some fault
    → Err fault ≡ preferred_answer (penalty_at preferences known) limits edges request
route_refused preferences known limits edges request fault keyed refused =
    preferred-one preferences known limits edges request (Err fault) keyed (rw refused refl)

pub beyond_reordered : (limits : RouteLimits) (edges others : List PointEdge) (request : Request) → IsPermutation others edges
    → IsBeyond limits edges request → IsBeyond limits others request
beyond_reordered limits edges others request order is = (
  is.0,
  record {
    usable = usable_over edges others request is.0 (λ edge. (same edge).0) is.1.usable;
    first = λ other able. is.1.first other (usable_over others edges request other (λ edge. (same edge).1) able);
  },
  is.2,
)
  where
    same : HaveSame edges others
    same = same-permuted edges others order

-- a rest within limits is one without
rest_widened : (limits : RouteLimits) (edges : List PointEdge) (request : Request) {rest : List PointEdge} → IsRestWithin limits edges request rest
    → IsRestWithin no_limits edges request rest
rest_widened limits edges request h = record {
  node = h.node;
  joins = h.joins;
  short = omega (arith, h.short, min-le_right limits.most_hops 20);
  in_time = tt;
}

-- a budget that can run out within limits can without
pub used_widened : (limits : RouteLimits) (edges : List PointEdge) (request : Request) (budget : SearchBudget)
    → IsUsedUp limits edges request budget → IsUsedUp no_limits edges request budget
used_widened limits edges request budget (inr is) =
    inr (
      is.0,
      record {
        rests = is.1.rests;
        many = is.1.many;
        within = λ i d in_range. rest_widened limits edges request (is.1.within i d in_range);
        different = is.1.different;
      },
    )
used_widened limits edges request budget (inl is) =
    inl (
      is.0,
      record {
        rests = is.1.rests;
        many = is.1.many;
        within = λ i d in_range. rest_widened limits edges request (is.1.within i d in_range);
        different = is.1.different;
      },
    )

-- a rest is one over the same edges in another order
rest_reordered : (limits : RouteLimits) (edges others : List PointEdge) (request : Request) {rest : List PointEdge} → IsPermutation others edges
    → IsRestWithin limits edges request rest → IsRestWithin limits others request rest
rest_reordered limits edges others request {rest} order h = record {
  node = h.node;
  joins = rest_over edges others request h.node rest (λ edge. (same-permuted edges others order edge).0) h.joins;
  short = h.short;
  in_time = h.in_time;
}

-- and takes as many steps
steps_reordered : (edges others : List PointEdge) (request : Request) (rests : List (List PointEdge)) → IsPermutation others edges
    → steps_of request edges rests ≤ steps_of request others rests
steps_reordered edges others request rests order =
    sum_by-le-sum_by (λ rest. steps_at request edges rests (start_of request rest)) (λ rest. steps_at request others rests (start_of request rest)) rests
    (λ rest. omega (arith, sum_by-IsPermutation (λ (edge : PointEdge). if is_point (start_of request rest) edge.to then 1 + rests_at request rests edge.from else 0) others edges order))

pub used_reordered : (limits : RouteLimits) (edges others : List PointEdge) (request : Request) (budget : SearchBudget)
    → IsPermutation others edges → IsUsedUp limits edges request budget → IsUsedUp limits others request budget
used_reordered limits edges others request budget order (inr is) =
    inr (
      is.0,
      record {
        rests = is.1.rests;
        many = by is.1.many;
        within = λ i d in_range. rest_reordered limits edges others request order (is.1.within i d in_range);
        different = is.1.different;
      },
    )
  where
    by : (budget.most_steps < steps_of request edges is.1.rests) ⊎ (2 ^ 32 ≤ length is.1.rests)
        → (budget.most_steps < steps_of request others is.1.rests) ⊎ (2 ^ 32 ≤ length is.1.rests)
    by (inl p) = inl (omega (arith, p, steps_reordered edges others request is.1.rests order))
    by (inr p) = inr p
used_reordered limits edges others request budget order (inl is) =
    inl (
      is.0,
      record {
        rests = is.1.rests;
        many = is.1.many;
        within = λ i d in_range. rest_reordered limits edges others request order (is.1.within i d in_range);
        different = is.1.different;
      },
    )
