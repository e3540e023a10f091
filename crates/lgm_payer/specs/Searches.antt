-- The search for a payment's next part: what is asked, what its answer is, and which part is chosen.
use Rattle.std.specs.Prelude.{◌≡◌, ◌⊎◌, ℕ, ◌+◌, ◌-◌, ◌*◌, ◌/◌, ◌^◌, ◌<◌, ◌≤◌, Bool, true, false, not, ◌&&◌, ◌==◌, nat_lt, nat_le, min, max, List, [], length, fold, sum_by}
use Rattle.std.specs.Prelude.{Option, Some, None, Result, Ok, Err, if◌then◌else◌}
use Rattle.std.specs.Option.{option_or}
use Rattle.std.specs.Int.{div_ceil}
use Rattle.lgm_wire.specs.declared.point.Point.{Point}
use Rattle.lgm_store.specs.Rows.{Rows, is_point}
use Rattle.lgm_graph.specs.Edges.{PointEdge}
use Rattle.lgm_graph.specs.Overlay.{overlaid_edges}
use Rattle.lgm_graph.specs.Route.{sent}
use Rattle.lgm_graph.specs.declared.estimate.Estimate.{Estimate}
use Rattle.lgm_graph.specs.declared.overlay.ExtraEdge.{ExtraEdge}
use Rattle.lgm_graph.specs.declared.route.Hop.{Hop}
use Rattle.lgm_route.specs.declared.request.Request.{Request}
use Rattle.lgm_route.specs.declared.limits.RouteLimits.{RouteLimits}
use Rattle.lgm_route.specs.declared.preferences.Preferences.{Preferences}
use Rattle.lgm_route.specs.declared.found.Found.{Found}
use Rattle.lgm_route.specs.declared.found.SearchFault.{SearchFault}
use Rattle.lgm_route.specs.declared.found.SearchFault.TheVariants.{Fault}
use Rattle.lgm_route.specs.declared.fault.RouteFault.TheVariants.{NoRoute}
use Rattle.lgm_route.specs.Odds.{penalty_by}
use Rattle.lgm_route.specs.Preferred.{IsRouteBy, penalty_at, preferred_answer, no_preferences}
use Rattle.lgm_odds.specs.RouteOdds.{route_odds}
use Rattle.lgm_odds.specs.Room.{room_into}
use Rattle.lgm_odds.specs.Cut.{Capacities, CutParts, IsNarrowCut}
use Rattle.lgm_payer.specs.declared.failure.Ending.{Ending}
use Rattle.lgm_payer.specs.declared.failure.Ending.TheVariants.{Unreadable, Failed}
use Rattle.lgm_payer.specs.declared.invoice.Invoice.{Invoice}
use Rattle.lgm_payer.specs.declared.offer.Offer.{Offer}
use Rattle.lgm_payer.specs.declared.part.Part.{Part}
use Rattle.lgm_payer.specs.declared.unfound.Unfound.{Unfound}
use Rattle.lgm_payer.specs.declared.unfound.Unfound.TheVariants.{Search, TooDear, Short, PayeeShort, PathsShort}
use Rattle.lgm_payer.specs.Failures.{kind_of, is_far}
use Rattle.lgm_payer.specs.Reasons.{is_mendable}
use Rattle.lgm_payer.specs.Payments.{PaymentState, IsShare, fees, left, parts_left}
use Rattle.lgm_payer.specs.Overlays.{overlay_of, extra_of, limits_of}

-- ---- what ends a payment

-- the failure code that the payee returned, but mpp_timeout, which another try may mend
abbrev pub refusal_by_ending : List Hop → Option Ending → Option ℕ
refusal_by_ending route None = None
refusal_by_ending route (Some Unreadable) = None
refusal_by_ending route (Some (Failed failure)) =
    if nat_le (length route) failure.place && not (failure.code == 23) then Some failure.code else None

abbrev pub refusal_left : Part → Option ℕ
refusal_left part = refusal_by_ending part.route part.ending

abbrev pub or_refusal : Option ℕ → Part → Option ℕ
or_refusal first part = option_or first (refusal_left part)

-- the first one of these
abbrev pub refusal_of : List Part → Option ℕ
refusal_of parts = fold or_refusal None parts

-- ---- what is asked

-- the most blocks that a part's end leaves, of 32 bits
abbrev pub blocks_by_ending : Part → Option Ending → ℕ
blocks_by_ending part None = 2 ^ 32 - 1
blocks_by_ending part (Some Unreadable) = 2 ^ 32 - 1
blocks_by_ending part (Some (Failed failure)) =
    if nat_lt failure.place (length part.route) && is_far (kind_of failure.code) then part.blocks - 1 else 2 ^ 32 - 1

abbrev pub blocks_left : Part → ℕ
blocks_left part = blocks_by_ending part part.ending

abbrev pub or_fewer : ℕ → Part → ℕ
or_fewer most part = min most (blocks_left part)

-- the most blocks until a first HTLC expires
abbrev pub most_blocks : PaymentState → ℕ
most_blocks payment = fold or_fewer payment.bounds.most_blocks payment.parts

-- the blocks until the payee's HTLC expires: what it asks for, and 3 that may come while the part is under way
abbrev pub final_blocks : Invoice → ℕ
final_blocks invoice = invoice.final_delta + 3

-- what is asked for a part
abbrev pub request_of : PaymentState → ℕ → ℕ → Request
request_of payment amount height = record {
  payer = payment.payer;
  payee = payment.invoice.payee;
  amount = amount;
  expiry = min (2 ^ 32 - 1) (height + final_blocks payment.invoice);
}

-- the limits of its route: none is within them if the payee's own blocks are too many
abbrev pub route_limits : PaymentState → Option RouteLimits
route_limits payment =
    if nat_lt (most_blocks payment) (final_blocks payment.invoice) then None
    else Some (record { most_delay = Some (most_blocks payment - final_blocks payment.invoice); most_hops = 20 })

-- what edges out of the payer carry together, of 64 bits
abbrev pub room_out : Point → List ExtraEdge → ℕ
room_out payer extra = min (2 ^ 64 - 1) (sum_by (λ edge. if is_point edge.from payer then edge.max else 0) extra)

-- what a part is searched over: the penalty of an edge for an amount, the odds that a route fails, the edges, the height, and
-- what the payer's channels can send together, the edges into the payee carry, and each edge can carry in all
pub record Prospect : Type 0 where
  pub penalty : PointEdge → ℕ → ℕ
  pub odds : List Hop → ℕ
  pub edges : List PointEdge
  pub height : ℕ
  pub room : ℕ
  pub payee_room : ℕ
  pub capacities : Capacities

-- the penalty by what is believed of edges
abbrev pub penalty_with : Preferences → (ℕ → Point → Estimate) → PointEdge → ℕ → ℕ
penalty_with preferences believed edge amount =
    penalty_by preferences.failure_msat preferences.hop_msat (believed edge.scid edge.from) edge.max amount

-- that of a payment, by what its payer prefers and believes
abbrev pub prospect_of : Preferences → (ℕ → Point → Estimate) → Option (List ℕ) → Rows → PaymentState → List ExtraEdge → List Hop → List Hop → ℕ → Prospect
prospect_of preferences believed known rows payment own since busy height = record {
  penalty = penalty_with preferences believed;
  odds = route_odds rows (extra_of payment own since busy) (limits_of payment rows busy) believed;
  edges = overlaid_edges known rows (overlay_of payment rows own since busy);
  height = height;
  room = room_out payment.payer (extra_of payment own since busy);
  payee_room = room_into rows (extra_of payment own since busy) (limits_of payment rows busy) believed payment.invoice.payee;
  capacities = record {
    rows = rows;
    extra = extra_of payment own since busy;
    limits = limits_of payment rows busy;
    believed = believed;
    payer = payment.payer;
  };
}

-- that of a payer that prefers nothing but to send least
abbrev pub plain : Prospect → Prospect
plain prospect = record prospect { penalty = penalty_at no_preferences [] }

-- ---- what is answered

-- the answer for a part within limits, by what its payer prefers: the best route, or one that may not be the best, or why
-- there is none; if there are no limits, no route
abbrev pub IsAnswerWithin : Option RouteLimits → Prospect → Request → Result Found SearchFault → Type 0
IsAnswerWithin None prospect request answer = answer ≡ Err (Fault NoRoute)
IsAnswerWithin (Some limits) prospect request answer =
    IsRouteBy (λ answer. answer ≡ preferred_answer prospect.penalty limits prospect.edges request) limits prospect.edges request answer

-- that for a part of a payment
pub record IsAnswerFor (prospect : Prospect) (payment : PaymentState) (amount : ℕ) (answer : Result Found SearchFault) : Type 0 where
  pub within : IsAnswerWithin (route_limits payment) prospect (request_of payment amount prospect.height) answer

-- such a route whose fee is within the bound
pub record IsRouteFor (prospect : Prospect) (payment : PaymentState) (amount : ℕ) (found : Found) : Type 0 where
  pub answer : IsAnswerFor prospect payment amount (Ok found)
  pub fee : sent found.route - amount + fees payment ≤ payment.bounds.most_fee

-- the cheapest route, where the one that its payer prefers has a fee beyond the bound
pub record IsCheapestFor (prospect : Prospect) (payment : PaymentState) (amount : ℕ) (found : Found) : Type 0 where
  pub dear : Found
  pub preferred : IsAnswerFor prospect payment amount (Ok dear)
  pub beyond : payment.bounds.most_fee < sent dear.route - amount + fees payment
  pub route : IsRouteFor (plain prospect) payment amount found

-- the route of a part: by what its payer prefers, or else the cheapest one
abbrev pub IsFoundFor : Prospect → PaymentState → ℕ → Found → Type 0
IsFoundFor prospect payment amount found =
    IsRouteFor prospect payment amount found ⊎ IsCheapestFor prospect payment amount found

-- the cheapest route is beyond the bound of the fee
pub record IsTooDear (prospect : Prospect) (payment : PaymentState) (amount fee : ℕ) : Type 0 where
  pub found : Found
  pub answer : IsAnswerFor (plain prospect) payment amount (Ok found)
  pub fee_is : fee ≡ sent found.route - amount
  pub beyond : payment.bounds.most_fee < fee + fees payment

-- why none is found for an amount
abbrev pub IsReason : Prospect → PaymentState → ℕ → Unfound → Type 0
IsReason prospect payment amount (Search fault) =
    IsAnswerFor prospect payment amount (Err fault) ⊎ IsAnswerFor (plain prospect) payment amount (Err fault)
IsReason prospect payment amount (TooDear fee) = IsTooDear prospect payment amount fee
IsReason prospect payment amount (Short room) = ⊥
IsReason prospect payment amount (PayeeShort room) = ⊥
IsReason prospect payment amount (PathsShort room) = ⊥

-- ---- which part is chosen

-- the amounts that are tried: what is left in so many equal pieces
abbrev pub piece : PaymentState → ℕ → ℕ
piece payment pieces = div_ceil (left payment) pieces

-- twice as many, if so many parts may be under way, and none is below the least part
abbrev pub next_pieces : PaymentState → ℕ → Option ℕ
next_pieces payment pieces =
    if nat_le (2 * pieces) (parts_left payment) && nat_le (2 * pieces) (left payment / max 1 payment.bounds.least_part)
    then Some (2 * pieces) else None

-- the greatest odds of a route that is likely enough: 3 to 1 that it fails, in millionths
abbrev pub likely_odds : ℕ
likely_odds = 3000000

abbrev pub is_likely : Offer → Bool
is_likely offer = nat_le offer.odds likely_odds

-- an offer is expected to bring more than another one: its amount times the odds that it arrives
abbrev pub brings_more : Offer → Offer → Bool
brings_more offer other = nat_lt (other.amount * (1000000 + offer.odds)) (offer.amount * (1000000 + other.odds))

-- the one that is expected to bring most: the earlier of two that bring as much
abbrev pub better : Option Offer → Offer → Offer
better None offer = offer
better (Some best) offer = if brings_more offer best then offer else best

-- a route for a piece of what is left
pub record IsFit (prospect : Prospect) (payment : PaymentState) (offer : Offer) : Type 0 where
  pub share : IsShare payment offer.amount
  pub route : IsFoundFor prospect payment offer.amount offer.found
  pub odds : offer.odds ≡ prospect.odds offer.found.route

-- what was tried: the amounts before the next one, none of which has a likely route, and of the routes that they have the
-- best
pub data IsTried (prospect : Prospect) (payment : PaymentState) : Option ℕ → Option Offer → Type 0 where
  start : IsTried prospect payment (Some 1) None
  unlikely : (pieces : ℕ) (best : Option Offer) (offer : Offer) → IsTried prospect payment (Some pieces) best
      → IsFit prospect payment offer → offer.amount ≡ piece payment pieces → is_likely offer ≡ false
      → IsTried prospect payment (next_pieces payment pieces) (Some (better best offer))
  without : (pieces : ℕ) (best : Option Offer) (reason : Unfound) → IsTried prospect payment (Some pieces) best
      → IsReason prospect payment (piece payment pieces) reason → is_mendable reason ≡ true
      → IsTried prospect payment (next_pieces payment pieces) best

-- it is the first that is likely
pub record IsFirstLikely (prospect : Prospect) (payment : PaymentState) (offer : Offer) : Type 0 where
  pub pieces : ℕ
  pub best : Option Offer
  pub tried : IsTried prospect payment (Some pieces) best
  pub amount : offer.amount ≡ piece payment pieces
  pub likely : is_likely offer ≡ true

-- the paths from the payer to the payee can't carry what is left, in however many parts: a cut between them has this room,
-- which is less
abbrev pub ArePathsShort : Prospect → PaymentState → ℕ → Type 0
ArePathsShort prospect payment room =
    (cut : CutParts) × IsNarrowCut prospect.capacities payment.invoice.payee (left payment) cut room

-- a cut: the payer's channels can't send what is left, or the edges into the payee can't carry it, or those across a cut in
-- between, in however many parts
abbrev pub IsShort : Prospect → PaymentState → Unfound → Type 0
IsShort prospect payment (Search fault) = ⊥
IsShort prospect payment (TooDear fee) = ⊥
IsShort prospect payment (Short room) = (room ≡ prospect.room) × (room < left payment)
IsShort prospect payment (PayeeShort room) = (room ≡ prospect.payee_room) × (room < left payment)
IsShort prospect payment (PathsShort room) = ArePathsShort prospect payment room

-- what a part is sent over: a route for the first amount that has a likely one, or else of all tried the best one
pub record IsOffered (prospect : Prospect) (payment : PaymentState) (offer : Offer) : Type 0 where
  pub room : left payment ≤ prospect.room
  pub payee_room : left payment ≤ prospect.payee_room
  pub fit : IsFit prospect payment offer
  pub chosen : IsFirstLikely prospect payment offer ⊎ IsTried prospect payment None (Some offer)

-- why there is none: of the last amount that was tried, where none before has a route; or a reason that no smaller amount mends
pub record IsLast (prospect : Prospect) (payment : PaymentState) (reason : Unfound) : Type 0 where
  pub pieces : ℕ
  pub best : Option Offer
  pub tried : IsTried prospect payment (Some pieces) best
  pub why : IsReason prospect payment (piece payment pieces) reason
  pub last : is_mendable reason ≡ true → (best ≡ None) × (next_pieces payment pieces ≡ None)
