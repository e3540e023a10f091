-- Why a payment has no route within limits.
use Rattle.std.specs.Prelude.{◌≡◌, ◌⊎◌, ℕ, ◌<◌, Bool, true, false, ◌&&◌, nat_le, List, Contains, Option, Some, None, codes}
use Rattle.lgm_wire.specs.declared.point.Point.{Point}
use Rattle.lgm_store.specs.Rows.{is_point}
use Rattle.lgm_graph.specs.Edges.{PointEdge}
use Rattle.lgm_route.specs.declared.request.Request.{Request}
use Rattle.lgm_route.specs.declared.limits.RouteLimits.{RouteLimits}
use Rattle.lgm_route.specs.declared.limits.SearchBudget.{SearchBudget}
use Rattle.lgm_route.specs.declared.fault.RouteFault.{RouteFault}
use Rattle.lgm_route.specs.declared.fault.RouteFault.TheVariants.{NoMemory}
use Rattle.lgm_route.specs.declared.found.SearchFault.{SearchFault}
use Rattle.lgm_route.specs.declared.found.SearchFault.TheVariants.{Fault, Undecided}
use Rattle.lgm_route.specs.declared.no_route.NoRouteReason.{NoRouteReason}
use Rattle.lgm_route.specs.declared.no_route.NoRouteReason.TheVariants as reasons
use Rattle.lgm_route.specs.declared.sought.Sought.{Sought}
use Rattle.lgm_route.specs.Routes.{IsUsable}
use Rattle.lgm_route.specs.Preferred.{IsWithin, IsUsedUp, no_limits}
use Rattle.lgm_route.specs.Answers.{refusal}

-- the number, and the word
abbrev pub reason_number : NoRouteReason → ℕ
reason_number reasons.PayerHasNoChannel = 41
reason_number reasons.PayeeTakesNoPayment = 42
reason_number reasons.PayerLacksAmount = 43
reason_number reasons.PayeeLacksAmount = 44
reason_number reasons.Unconnected = 45
reason_number reasons.BeyondDelay = 46
reason_number reasons.BeyondHops = 47
reason_number reasons.BeyondBoth = 48

abbrev pub reason_word : NoRouteReason → List ℕ
reason_word reasons.PayerHasNoChannel = codes "payer-has-no-channel"
reason_word reasons.PayeeTakesNoPayment = codes "payee-takes-no-payment"
reason_word reasons.PayerLacksAmount = codes "payer-lacks-amount"
reason_word reasons.PayeeLacksAmount = codes "payee-lacks-amount"
reason_word reasons.Unconnected = codes "unconnected"
reason_word reasons.BeyondDelay = codes "beyond-delay"
reason_word reasons.BeyondHops = codes "beyond-hops"
reason_word reasons.BeyondBoth = codes "beyond-both"

-- ---- edges at the ends of a payment

-- the node is the one that is given, if one is
abbrev pub is_node : Option Point → Point → Bool
is_node (Some node) point = is_point node point
is_node None point = true

-- the amount that is given, if one is, is between these
abbrev pub is_between : Option ℕ → ℕ → ℕ → Bool
is_between (Some amount) least most = nat_le least amount && nat_le amount most
is_between None least most = true

-- an edge is sought: it leaves and enters the nodes that are given, and carries the amount that is
abbrev pub is_sought : Sought → PointEdge → Bool
is_sought sought edge = is_node sought.from edge.from && is_node sought.to edge.to && is_between sought.amount edge.min edge.max

-- none of the edges is sought, or one is
abbrev pub NoneIsSought : Sought → List PointEdge → Type 0
NoneIsSought sought edges = (edge : PointEdge) → Contains edges edge → is_sought sought edge ≡ false

abbrev pub SomeIsSought : Sought → List PointEdge → Type 0
SomeIsSought sought edges = (edge : PointEdge) × Contains edges edge × (is_sought sought edge ≡ true)

-- an edge out of the payer, one into the payee, and such edges that carry the amount
abbrev pub from_payer : Request → Sought
from_payer request = record { from = Some request.payer; to = None; amount = None }

abbrev pub to_payee : Request → Sought
to_payee request = record { from = None; to = Some request.payee; amount = None }

abbrev pub amount_from_payer : Request → Sought
amount_from_payer request = record { from = Some request.payer; to = None; amount = Some request.amount }

abbrev pub amount_to_payee : Request → Sought
amount_to_payee request = record { from = None; to = Some request.payee; amount = Some request.amount }

-- ---- walks within limits

-- a usable walk is within the limits, or none is
abbrev pub HasRoute : RouteLimits → List PointEdge → Request → Type 0
HasRoute limits edges request = (walk : List PointEdge) × IsUsable edges request walk × IsWithin limits walk

abbrev pub HasNone : RouteLimits → List PointEdge → Request → Type 0
HasNone limits edges request = (walk : List PointEdge) → IsUsable edges request walk → IsWithin limits walk → ⊥

-- the limit of the delay alone, and that of the hops
abbrev pub delay_alone : RouteLimits → RouteLimits
delay_alone limits = record { most_delay = limits.most_delay; most_hops = 20 }

abbrev pub hops_alone : RouteLimits → RouteLimits
hops_alone limits = record { most_delay = None; most_hops = limits.most_hops }

-- ---- the reason

-- each reason, and what it says
abbrev pub Holds : NoRouteReason → RouteLimits → List PointEdge → Request → Type 0
Holds reasons.PayerHasNoChannel limits edges request = NoneIsSought (from_payer request) edges
Holds reasons.PayeeTakesNoPayment limits edges request = NoneIsSought (to_payee request) edges
Holds reasons.PayerLacksAmount limits edges request = NoneIsSought (amount_from_payer request) edges
Holds reasons.PayeeLacksAmount limits edges request = NoneIsSought (amount_to_payee request) edges
Holds reasons.Unconnected limits edges request = HasNone no_limits edges request
Holds reasons.BeyondDelay limits edges request = HasNone (delay_alone limits) edges request
Holds reasons.BeyondHops limits edges request = HasNone (hops_alone limits) edges request
Holds reasons.BeyondBoth limits edges request = HasNone limits edges request

-- no reason with a lesser number holds
abbrev pub NoneBefore : ℕ → RouteLimits → List PointEdge → Request → Type 0
NoneBefore number limits edges request =
    (other : NoRouteReason) → reason_number other < number → Holds other limits edges request → ⊥

-- the first reason that holds
pub record IsReason (reason : NoRouteReason) (limits : RouteLimits) (edges : List PointEdge) (request : Request) : Type 0 where
  pub holds : Holds reason limits edges request
  pub first : NoneBefore (reason_number reason) limits edges request

-- there is a route within the limits, or this is the reason
abbrev pub IsExplained : Option NoRouteReason → RouteLimits → List PointEdge → Request → Type 0
IsExplained None limits edges request = HasRoute limits edges request
IsExplained (Some reason) limits edges request = IsReason reason limits edges request

-- why none is found: memory or the budget ran out, or the payment is refused whatever the edges are
abbrev pub IsUnexplained : List PointEdge → Request → SearchBudget → SearchFault → Type 0
IsUnexplained edges request budget fault =
    (fault ≡ Fault NoMemory) ⊎ ((fault ≡ Undecided) × IsUsedUp no_limits edges request budget)
    ⊎ ((reason : RouteFault) × (refusal request ≡ Some reason) × (fault ≡ Fault reason))
