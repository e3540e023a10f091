-- Reasons one after the other, and over the same edges in another order.
use Rattle.std.proofs.Common.{◌≡◌, ◌⊎◌, ℕ, ◌+◌, ◌<◌, ◌≤◌, List, inl, inr, refl, sym, ap, ◌∙◌, subst, arith, true≢false}
use Rattle.std.specs.Prelude.{◌==◌, if◌then◌else◌, Option, Some, None, Result, Ok, Err, IfOk, IfErr}
use Rattle.std.specs.List.Sorted.{IsPermutation}
use Rattle.lgm_graph.specs.Edges.{PointEdge}
use Rattle.lgm_route.specs.declared.request.Request.{Request}
use Rattle.lgm_route.specs.declared.limits.RouteLimits.{RouteLimits}
use Rattle.lgm_route.specs.declared.limits.SearchBudget.{SearchBudget}
use Rattle.lgm_route.specs.declared.sought.Sought.{Sought}
use Rattle.lgm_route.specs.declared.found.SearchFault.{SearchFault}
use Rattle.lgm_route.specs.declared.no_route.NoRouteReason.{NoRouteReason}
use Rattle.lgm_route.specs.declared.no_route.NoRouteReason.TheVariants as reasons
use Rattle.lgm_route.specs.Preferred.{no_limits}
use Rattle.lgm_route.specs.Reasons.{from_payer, to_payee, amount_from_payer, amount_to_payee, delay_alone, hops_alone}
use Rattle.lgm_route.specs.Reasons.{reason_number, NoneIsSought, SomeIsSought, HasRoute, HasNone, Holds, NoneBefore, IsExplained, IsUnexplained}
use Rattle.lgm_route.proofs.ChoiceLaws.{HaveSame, same-permuted, usable_over}
use Rattle.lgm_route.proofs.PreferredLaws.{used_reordered}

-- ---- reasons by their numbers

-- the reason of a number
abbrev reason_at : ℕ → NoRouteReason
reason_at number =
    if number == 41 then reasons.PayerHasNoChannel
    else if number == 42 then reasons.PayeeTakesNoPayment
    else if number == 43 then reasons.PayerLacksAmount
    else if number == 44 then reasons.PayeeLacksAmount
    else if number == 45 then reasons.Unconnected
    else if number == 46 then reasons.BeyondDelay
    else if number == 47 then reasons.BeyondHops
    else reasons.BeyondBoth

reason_back : (reason : NoRouteReason) → reason_at (reason_number reason) ≡ reason
reason_back reasons.PayerHasNoChannel = refl
reason_back reasons.PayeeTakesNoPayment = refl
reason_back reasons.PayerLacksAmount = refl
reason_back reasons.PayeeLacksAmount = refl
reason_back reasons.Unconnected = refl
reason_back reasons.BeyondDelay = refl
reason_back reasons.BeyondHops = refl
reason_back reasons.BeyondBoth = refl

from_41 : (reason : NoRouteReason) → 41 ≤ reason_number reason
from_41 reasons.PayerHasNoChannel = omega arith
from_41 reasons.PayeeTakesNoPayment = omega arith
from_41 reasons.PayerLacksAmount = omega arith
from_41 reasons.PayeeLacksAmount = omega arith
from_41 reasons.Unconnected = omega arith
from_41 reasons.BeyondDelay = omega arith
from_41 reasons.BeyondHops = omega arith
from_41 reasons.BeyondBoth = omega arith

module _ (limits : RouteLimits) (edges : List PointEdge) (request : Request) where
  -- no reason is before the first
  pub none_first : NoneBefore 41 limits edges request
  none_first other lt holds = absurd (omega (arith, from_41 other))

  -- and none before the next, if this one doesn't hold
  pub none_next : (reason : NoRouteReason) (next : ℕ) → next ≡ reason_number reason + 1
      → NoneBefore (reason_number reason) limits edges request → (Holds reason limits edges request → ⊥)
      → NoneBefore next limits edges request
  none_next reason next is none not other lt holds = by (split (reason_number other) (reason_number reason) (omega (arith, is, lt)))
    where
      split : (a b : ℕ) → a < b + 1 → (a < b) ⊎ (a ≡ b)
      split a b lt = grind arith

      by : (reason_number other < reason_number reason) ⊎ (reason_number other ≡ reason_number reason) → ⊥
      by (inl less) = none other less holds
      by (inr same) =
          let one : other ≡ reason = sym (reason_back other) ∙ ap reason_at same ∙ reason_back reason in
          not (subst (λ r. Holds r limits edges request) one holds)

  -- an edge that is sought excludes that none is
  pub some_not_none : (sought : Sought) → SomeIsSought sought edges → NoneIsSought sought edges → ⊥
  some_not_none sought some none = true≢false (sym some.2 ∙ none some.0 some.1)

  -- a route excludes that there is none
  pub route_not_none : HasRoute limits edges request → HasNone limits edges request → ⊥
  route_not_none route none = none route.0 route.1 route.2

-- ---- over the same edges in another order

module _ (edges others : List PointEdge) (same : HaveSame edges others) (request : Request) where
  some_over : (limits : RouteLimits) → HasRoute limits edges request → HasRoute limits others request
  some_over limits route = (route.0, usable_over edges others request route.0 (λ edge. (same edge).0) route.1, route.2)

  none_over : (limits : RouteLimits) → HasNone limits edges request → HasNone limits others request
  none_over limits none walk able within = none walk (usable_over others edges request walk (λ edge. (same edge).1) able) within

  sought_over : (sought : Sought) → NoneIsSought sought edges → NoneIsSought sought others
  sought_over sought none edge there = none edge ((same edge).1 there)

  holds_over : (reason : NoRouteReason) (limits : RouteLimits) → Holds reason limits edges request → Holds reason limits others request
  holds_over reasons.PayerHasNoChannel limits holds = sought_over (from_payer request) holds
  holds_over reasons.PayeeTakesNoPayment limits holds = sought_over (to_payee request) holds
  holds_over reasons.PayerLacksAmount limits holds = sought_over (amount_from_payer request) holds
  holds_over reasons.PayeeLacksAmount limits holds = sought_over (amount_to_payee request) holds
  holds_over reasons.Unconnected limits holds = none_over no_limits holds
  holds_over reasons.BeyondDelay limits holds = none_over (delay_alone limits) holds
  holds_over reasons.BeyondHops limits holds = none_over (hops_alone limits) holds
  holds_over reasons.BeyondBoth limits holds = none_over limits holds

pub explained_over : (edges others : List PointEdge) (request : Request) (found : Option NoRouteReason) (limits : RouteLimits)
    → IsPermutation others edges → IsExplained found limits edges request → IsExplained found limits others request
explained_over edges others request found limits order is = by found is
  where
    same : HaveSame edges others
    same = same-permuted edges others order

    back : HaveSame others edges
    back edge = ((same edge).1, (same edge).0)

    by : (found : Option NoRouteReason) → IsExplained found limits edges request → IsExplained found limits others request
    by None is = some_over edges others same request limits is
    by (Some reason) is = record {
      holds = holds_over edges others same request reason limits is.holds;
      first = λ other lt holds. is.first other lt (holds_over others edges back request other limits holds);
    }

-- so is what a call finds
pub found_over : (edges others : List PointEdge) (request : Request) (result : Result (Option NoRouteReason) SearchFault) (limits : RouteLimits)
    → IsPermutation others edges → IfOk result (λ found. IsExplained found limits edges request)
    → IfOk result (λ found. IsExplained found limits others request)
found_over edges others request (Ok found) limits order is = explained_over edges others request found limits order is
found_over edges others request (Err fault) limits order is = tt

-- and so is why nothing is found
pub unexplained_over : (edges others : List PointEdge) (request : Request) (result : Result (Option NoRouteReason) SearchFault)
    (budget : SearchBudget) → IsPermutation others edges → IfErr result (IsUnexplained edges request budget)
    → IfErr result (IsUnexplained others request budget)
unexplained_over edges others request (Ok found) budget order is = tt
unexplained_over edges others request (Err fault) budget order (inl none) = inl none
unexplained_over edges others request (Err fault) budget order (inr (inl is)) =
    inr (inl (is.0, used_reordered no_limits edges others request budget order is.1))
unexplained_over edges others request (Err fault) budget order (inr (inr refused)) = inr (inr refused)
