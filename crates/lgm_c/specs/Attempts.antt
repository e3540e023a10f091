-- A payment over what its payer knows and prefers, within limits: what C says of it, and what is asked.
use Rattle.std.specs.Prelude.{◌≡◌, ◌⊎◌, ℕ, nat_eq, nat_lt, Bool, true, false, if◌then◌else◌, List, [], All, map, length, Option, None, Some}
use Rattle.std.specs.Prelude.{Result, Err}
use Rattle.std.specs.List.{list_any}
use Rattle.lgm_wire.specs.declared.point.Point.{Point}
use Rattle.lgm_store.specs.Rows.{Rows}
use Rattle.lgm_graph.specs.Edges.{PointEdge}
use Rattle.lgm_graph.specs.Overlay.{OverlayParts, extra_edge, no_overlay, overlaid_edges}
use Rattle.lgm_graph.specs.declared.overlay.ExtraEdge.{ExtraEdge}
use Rattle.lgm_graph.specs.declared.overlay.Limit.{Limit}
use Rattle.lgm_graph.specs.declared.route.Hop.{Hop}
use Rattle.lgm_graph.specs.Estimates.{Entries}
use Rattle.lgm_route.specs.Preferred.{penalty_at, preferred_answer, no_preferences, no_limits, HasNoPenalty, IsSomeRoute, IsBeyond, IsUsedUp}
use Rattle.lgm_route.specs.declared.fault.RouteFault.{RouteFault}
use Rattle.lgm_route.specs.declared.limits.RouteLimits.{RouteLimits}
use Rattle.lgm_route.specs.declared.limits.SearchBudget.{SearchBudget}
use Rattle.lgm_route.specs.declared.preferences.Preferences.{Preferences}
use Rattle.lgm_route.specs.declared.request.Request.{Request}
use Rattle.lgm_route.specs.declared.no_route.NoRouteReason.{NoRouteReason}
use Rattle.lgm_route.specs.Answers.{refusal}
use Rattle.lgm_route.specs.Reasons.{IsExplained, reason_number}
use Rattle.lgm_c.specs.declared.argument_fault.ArgumentFault.{ArgumentFault}
use Rattle.lgm_c.specs.declared.argument_fault.ArgumentFault.TheVariants as wrong
use Rattle.lgm_c.specs.declared.attempt.LgmAttempt.{LgmAttempt}
use Rattle.lgm_c.specs.declared.overlay.LgmEdge.{LgmEdge}
use Rattle.lgm_c.specs.declared.overlay.LgmLimit.{LgmLimit}
use Rattle.lgm_c.specs.declared.overlay.LgmPoint.{LgmPoint}
use Rattle.lgm_c.specs.declared.attempt.LgmSearch.{LgmSearch}
use Rattle.lgm_c.specs.declared.routes.LgmPayment.{LgmPayment}
use Rattle.lgm_c.specs.declared.fault.Fault.{Fault}
use Rattle.lgm_c.specs.declared.fault.Fault.TheVariants as faults
use Rattle.lgm_c.specs.MapState.{MapState}
use Rattle.lgm_c.specs.Routing.{request_of, routed_in, Buffers, WritesSoFar}
use Rattle.lgm_c.specs.Status.{number_of, no_memory, unrouted}

-- ---- what C says of a payer

abbrev pub extra_given : LgmEdge → ExtraEdge
extra_given edge = record {
  scid = edge.scid;
  from = record { 0 = edge.from };
  to = record { 0 = edge.to };
  base = edge.fee_base_msat;
  millionths = edge.fee_proportional_millionths;
  delta = edge.cltv_expiry_delta;
  min = edge.htlc_minimum_msat;
  max = edge.htlc_maximum_msat;
}

abbrev pub limit_given : LgmLimit → Limit
limit_given limit = record { scid = limit.scid; from = record { 0 = limit.from }; most = limit.most_msat }

abbrev pub point_given : LgmPoint → Point
point_given node = record { 0 = node.point }

-- edges beside the map's, limits, and silent nodes
abbrev pub overlay_given : List LgmEdge → List LgmLimit → List LgmPoint → OverlayParts
overlay_given edges limits silent = record {
  extra = map (λ edge. extra_edge (extra_given edge)) edges;
  limits = map limit_given limits;
  silent = map point_given silent;
}

-- a number, or one that stands for 0
abbrev pub or_default : ℕ → ℕ → ℕ
or_default default number = if nat_eq number 0 then default else number

abbrev pub preferences_given : LgmSearch → Preferences
preferences_given search = record { failure_msat = search.failure_msat; hop_msat = search.hop_msat }

-- 0 blocks are any delay, and 0 hops any number
abbrev pub limits_given : LgmSearch → RouteLimits
limits_given search = record {
  most_delay = if nat_eq search.most_delay 0 then None else Some search.most_delay;
  most_hops = or_default 20 search.most_hops;
}

-- 0 labels are a million, and 0 steps five million
abbrev pub budget_from : ℕ → ℕ → SearchBudget
budget_from steps labels =
    record { most_labels = or_default 1000000 labels; most_steps = or_default 5000000 steps }

abbrev pub budget_given : LgmSearch → SearchBudget
budget_given search = budget_from search.most_steps search.most_labels

-- all zeros
abbrev pub plain_search : LgmSearch
plain_search = record {
  most_steps = 0;
  most_labels = 0;
  failure_msat = 0;
  hop_msat = 0;
  most_delay = 0;
  most_hops = 0;
}

-- ---- what is asked

-- a payment, what its payer knows beside the map, prefers and believes of edges, and the limits of its route and of the
-- search for it
pub record AttemptParts : Type 0 where
  pub request : Request
  pub overlay : OverlayParts
  pub known : Entries
  pub preferences : Preferences
  pub limits : RouteLimits
  pub budget : SearchBudget

abbrev pub attempt_of : LgmPayment → OverlayParts → Entries → LgmSearch → AttemptParts
attempt_of payment overlay known search = record {
  request = request_of payment;
  overlay = overlay;
  known = known;
  preferences = preferences_given search;
  limits = limits_given search;
  budget = budget_given search;
}

-- what C says, with what is believed of edges
abbrev pub attempt_given : LgmAttempt → Entries → AttemptParts
attempt_given attempt known =
    attempt_of attempt.payment (overlay_given attempt.edges.now attempt.limits.now attempt.silent.now) known attempt.search

-- a payment over the map alone
abbrev pub plain_attempt : LgmPayment → AttemptParts
plain_attempt payment = attempt_of payment no_overlay [] plain_search

-- ---- what is refused

-- the edge carries no amount, since each is 1 msat or more
abbrev pub lacks_maximum : PointEdge → Bool
lacks_maximum edge = nat_eq edge.max 0

-- which argument is wrong, if one is: more edges or limits than C may pass, or an edge without a maximum
abbrev pub wrong_argument : OverlayParts → Option ArgumentFault
wrong_argument overlay =
    if nat_lt 100000 (length overlay.extra) then Some wrong.Edges
    else if nat_lt 300000 (length overlay.limits) then Some wrong.Limits
    else if list_any lacks_maximum overlay.extra then Some wrong.Maximum
    else None

abbrev pub first_fault : Option ArgumentFault → Bool → Option RouteFault → Option Fault
first_fault (Some fault) full refused = Some (faults.Argument fault)
first_fault None true refused = Some faults.Full
first_fault None false (Some reason) = Some (unrouted reason)
first_fault None false None = None

-- why no route is searched for, whatever the edges are: a wrong argument, too many channels, or the payment is refused
abbrev pub unsearched : AttemptParts → Rows → Option Fault
unsearched attempt rows =
    first_fault (wrong_argument attempt.overlay) (nat_lt 2000000000 (length rows.channels)) (refusal attempt.request)

-- ---- the answer

-- a payer that prefers nothing and knows of no edge with a penalty
pub record PrefersNothing (attempt : AttemptParts) : Type 0 where
  pub preferences : attempt.preferences ≡ no_preferences
  pub known : All HasNoPenalty attempt.known

-- the edges that it may take
abbrev pub edges_for : AttemptParts → Option (List ℕ) → Rows → List PointEdge
edges_for attempt known rows = overlaid_edges known rows attempt.overlay

-- the best of the walks within the limits
abbrev pub answer_for : AttemptParts → List PointEdge → Result (List Hop) RouteFault
answer_for attempt edges =
    preferred_answer (penalty_at attempt.preferences attempt.known) attempt.limits edges attempt.request

abbrev pub unless_wrong : Option ArgumentFault → Result (List Hop) Fault → Result (List Hop) Fault
unless_wrong (Some fault) answer = Err (faults.Argument fault)
unless_wrong None answer = answer

-- its hops over the edges for an attempt, or why there is none: a wrong argument, `Full` with too many channels, or no route
abbrev pub route_over : AttemptParts → Option (List ℕ) → Rows → Result (List Hop) Fault
route_over attempt known rows =
    unless_wrong (wrong_argument attempt.overlay) (routed_in rows (answer_for attempt (edges_for attempt known rows)))

-- the search may stop before it found the best walk: its budget can run out. Without penalties this takes a limit that excludes
-- the walk that sends least of all
pub record MayStop (attempt : AttemptParts) (known : Option (List ℕ)) (rows : Rows) : Type 0 where
  pub used_up : IsUsedUp attempt.limits (edges_for attempt known rows) attempt.request attempt.budget
  pub beyond : PrefersNothing attempt → IsBeyond attempt.limits (edges_for attempt known rows) attempt.request

-- the hops of some usable walk within the limits
abbrev pub IsRouteFor : AttemptParts → Option (List ℕ) → Rows → List Hop → Type 0
IsRouteFor attempt known rows hops = IsSomeRoute attempt.limits (edges_for attempt known rows) attempt.request hops

-- ---- what a call does

-- the route was written with its payloads, or its fault was returned. Or the search stopped: then the best route so far was
-- written, or there was none
abbrev pub WritesTried : AttemptParts → Option (List ℕ) → Rows → List ℕ → ℕ → Buffers → Buffers → Type 0
WritesTried attempt known rows =
    WritesSoFar (route_over attempt known rows) (MayStop attempt known rows) (IsRouteFor attempt known rows)

-- so it was in the map of a handle
abbrev pub WritesAttempt : AttemptParts → Option MapState → List ℕ → ℕ → Buffers → Buffers → Type 0
WritesAttempt attempt None secret status old new = (status ≡ number_of faults.Closed) × (new ≡ old)
WritesAttempt attempt (Some state) secret status old new = WritesTried attempt state.known state.rows secret status old new

-- what a closed handle of estimates has: nothing is known of any edge
abbrev pub entries_of : Option Entries → Entries
entries_of None = []
entries_of (Some entries) = entries

-- ---- why there is no route

-- 0 if there is a route
abbrev pub explained_number : Option NoRouteReason → ℕ
explained_number (Some reason) = reason_number reason
explained_number None = 0

-- the number of why there is no route over these edges, or that memory ran out, or the budget, which can run out without limits
abbrev pub TellsReason : AttemptParts → List PointEdge → ℕ → Type 0
TellsReason attempt edges status =
    ((found : Option NoRouteReason) × IsExplained found attempt.limits edges attempt.request × (status ≡ explained_number found))
    ⊎ (status ≡ no_memory)
    ⊎ ((status ≡ number_of faults.Undecided) × IsUsedUp no_limits edges attempt.request attempt.budget)

-- that, or why no route is searched for
abbrev pub ExplainsIf : Option Fault → AttemptParts → List PointEdge → ℕ → Type 0
ExplainsIf (Some fault) attempt edges status = status ≡ number_of fault
ExplainsIf None attempt edges status = TellsReason attempt edges status

abbrev pub ExplainsIn : AttemptParts → Option (List ℕ) → Rows → ℕ → Type 0
ExplainsIn attempt known rows status = ExplainsIf (unsearched attempt rows) attempt (edges_for attempt known rows) status

-- so it is in the map of a handle
abbrev pub Explains : AttemptParts → Option MapState → ℕ → Type 0
Explains attempt None status = status ≡ number_of faults.Closed
Explains attempt (Some state) status = ExplainsIn attempt state.known state.rows status
