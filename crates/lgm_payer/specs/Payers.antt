-- A payer: its payments, and what it has learnt of edges.
use Rattle.std.specs.Prelude.{◌≡◌, ◌⊎◌, ℕ, ◌+◌, ◌-◌, ◌*◌, ◌^◌, ◌<◌, ◌≤◌, Bool, true, ◌==◌, nat_le, nat_lt, List, length, Option, Some, None, Ok, Err, slice_get, slice_set, if◌then◌else◌}
use Rattle.std.specs.List.{position, list_all}
use Rattle.std.specs.Option.{option_or}
use Rattle.lgm_wire.specs.declared.point.Point.{Point}
use Rattle.lgm_store.specs.Rows.{Rows, is_point}
use Rattle.lgm_graph.specs.Estimates.{Entries}
use Rattle.lgm_graph.specs.declared.overlay.ExtraEdge.{ExtraEdge}
use Rattle.lgm_route.specs.declared.preferences.Preferences.{Preferences}
use Rattle.lgm_route.specs.declared.fault.RouteFault.TheVariants as faults
use Rattle.lgm_route.specs.declared.found.SearchFault.TheVariants.{Fault}
use Rattle.lgm_payload.specs.Building.{built_for}
use Rattle.lgm_payload.specs.declared.arrival_fault.ArrivalFault.TheVariants as arrivals
use Rattle.lgm_odds.specs.Lessons.{believed}
use Rattle.lgm_payer.specs.declared.offer.Offer.{Offer}
use Rattle.lgm_payer.specs.declared.offer.Sending.{Sending}
use Rattle.lgm_payer.specs.declared.stage.Stage.TheVariants.{Open, Abandoned}
use Rattle.lgm_payer.specs.declared.unfound.Unfound.TheVariants as unfound
use Rattle.lgm_payer.specs.declared.unpaid.Unpaid.{Unpaid}
use Rattle.lgm_payer.specs.declared.unpaid.Unpaid.TheVariants.{UnknownPayment, ForeignChannel, ReckonedAhead, ReckonedBefore}
use Rattle.lgm_payer.specs.declared.unpaid.Unpaid.TheVariants.{TooManyPoints, PayeeRefused, TriesUsedUp, Unfound, Payloads, NumbersUsedUp}
use Rattle.lgm_payer.specs.declared.unpaid.Unpaid.TheVariants as unpaid
use Rattle.lgm_payer.specs.Parts.{part_of}
use Rattle.lgm_payer.specs.Payments.{PaymentState, left, is_paid, with_sent}
use Rattle.lgm_payer.specs.UnderWay.{all_under_way, all_since}
use Rattle.lgm_payer.specs.Overlays.{HaveRoom}
use Rattle.lgm_payer.specs.Preferring.{preferences_for}
use Rattle.lgm_payer.specs.Searches.{Prospect, prospect_of, refusal_of, IsOffered, IsShort, IsLast}

-- who pays; its payments, without those that it forgot; what was learnt of edges; how many payments were begun, and how many
-- parts were sent, over all payments; and how many of these the payer's channels have to reckon
pub record PayerState : Type 0 where
  pub point : Point
  pub payments : List PaymentState
  pub learnt : Entries
  pub begun : ℕ
  pub sent : ℕ
  pub settled : ℕ

-- the place of the payment with a number
abbrev pub payment_place : List PaymentState → ℕ → Option ℕ
payment_place payments number = position (λ payment. payment.number == number) payments

-- the payment with a number, and its place
pub record IsPayment (payments : List PaymentState) (number place : ℕ) (payment : PaymentState) : Type 0 where
  pub found : payment_place payments number ≡ Some place
  pub there : slice_get payments place ≡ Some payment

-- ---- what a payer sees

-- the features that it knows, the map, how many points its view numbers, the payer's channels, how many parts they reckon,
-- what it prefers, and the height of the chain
pub record Seen : Type 0 where
  pub known : Option (List ℕ)
  pub rows : Rows
  pub points : ℕ
  pub own : List ExtraEdge
  pub reckoned : ℕ
  pub preferences : Option Preferences
  pub height : ℕ

-- all of these edges leave the payer
abbrev pub are_own : Point → List ExtraEdge → Bool
are_own payer own = list_all (λ edge. is_point edge.from payer) own

abbrev pub channel_fault : Point → List ExtraEdge → Option Unpaid
channel_fault payer own = if are_own payer own then None else Some ForeignChannel

-- parts are reckoned that weren't sent yet, or parts of a payment that was forgotten aren't
abbrev pub reckoning_fault : ℕ → ℕ → ℕ → Option Unpaid
reckoning_fault sent settled reckoned =
    if nat_lt sent reckoned then Some ReckonedAhead else if nat_lt reckoned settled then Some ReckonedBefore else None

-- more points than an overlay numbers
abbrev pub points_fault : ℕ → ℕ → Option Unpaid
points_fault points extra = if nat_le (2 ^ 32) (points + 2 * extra) then Some TooManyPoints else None

-- the first reason why it can't be used for a payment
abbrev pub sight_fault : Seen → PayerState → PaymentState → Option Unpaid
sight_fault seen payer payment =
    option_or (option_or (channel_fault payment.payer seen.own) (reckoning_fault payer.sent payer.settled seen.reckoned))
    (points_fault seen.points (length seen.own + length payment.hints))

-- what a part of a payment is searched over, beside all that is under way
abbrev pub prospect_in : Seen → PayerState → PaymentState → Prospect
prospect_in seen payer payment =
    let busy = all_under_way payer.payments in
    prospect_of (preferences_for seen.preferences payment) (believed payer.learnt busy) seen.known seen.rows payment seen.own
    (all_since seen.reckoned payer.payments) busy seen.height

-- ---- the next part

-- a part of a payment was sent: over a route that is the answer, and that leaves each edge what is under way over it
pub record IsSentIn (seen : Seen) (old new : PayerState) (payment : ℕ) (sending : Sending) : Type 0 where
  pub place : ℕ
  pub before : PaymentState
  pub offer : Offer
  pub is : IsPayment old.payments payment place before
  pub seen_well : sight_fault seen old before ≡ None
  pub stays_open : before.stage ≡ Open
  pub unrefused : refusal_of before.parts ≡ None
  pub tries : length before.parts < before.bounds.most_tries
  pub offered : IsOffered (prospect_in seen old before) before offer
  pub room : HaveRoom seen.rows seen.own before.hints (all_since seen.reckoned old.payments) (all_under_way old.payments) offer.found.route
  pub payloads_are : built_for before.arrival offer.found.route ≡ Ok sending.payloads
  pub odds_are : sending.odds ≡ offer.odds
  pub best_is : sending.is_best ≡ offer.found.is_best
  pub part_is : sending.part ≡ part_of old.sent offer.found.route offer.amount seen.height
  pub sends : new ≡ record old {
    payments = slice_set old.payments place (with_sent sending.part before);
    sent = old.sent + 1;
  }

-- nothing of a payment is to be sent: the payee took the whole, or all of it is under way
abbrev pub IsWhole : PayerState → ℕ → Type 0
IsWhole payer payment =
    (place : ℕ) × ((state : PaymentState) × IsPayment payer.payments payment place state
    × ((is_paid state ≡ true) ⊎ (left state ≡ 0)))

-- why no part of this payment is sent
abbrev pub IsUnpaid : Seen → PayerState → PaymentState → Unpaid → Type 0
IsUnpaid seen payer payment UnknownPayment = ⊥
IsUnpaid seen payer payment ForeignChannel = sight_fault seen payer payment ≡ Some ForeignChannel
IsUnpaid seen payer payment ReckonedAhead = sight_fault seen payer payment ≡ Some ReckonedAhead
IsUnpaid seen payer payment ReckonedBefore = sight_fault seen payer payment ≡ Some ReckonedBefore
IsUnpaid seen payer payment TooManyPoints = sight_fault seen payer payment ≡ Some TooManyPoints
IsUnpaid seen payer payment unpaid.Abandoned = payment.stage ≡ Abandoned
IsUnpaid seen payer payment (PayeeRefused code) = refusal_of payment.parts ≡ Some code
IsUnpaid seen payer payment TriesUsedUp = payment.bounds.most_tries ≤ length payment.parts
IsUnpaid seen payer payment (Unfound reason) =
    (reason ≡ unfound.Search (Fault faults.NoMemory))
    ⊎ (IsShort (prospect_in seen payer payment) payment reason ⊎ IsLast (prospect_in seen payer payment) payment reason)
IsUnpaid seen payer payment (Payloads fault) =
    (fault ≡ arrivals.NoMemory) ⊎ ((offer : Offer) × IsOffered (prospect_in seen payer payment) payment offer
    × (built_for payment.arrival offer.found.route ≡ Err fault))
IsUnpaid seen payer payment NumbersUsedUp = 2 ^ 64 - 1 ≤ payer.sent

-- why no part of the payment with a number is: there is none, or this
abbrev pub IsUnpaidIn : Seen → PayerState → ℕ → Unpaid → Type 0
IsUnpaidIn seen payer payment reason =
    ((payment_place payer.payments payment ≡ None) × (reason ≡ UnknownPayment))
    ⊎ ((place : ℕ) × ((state : PaymentState) × IsPayment payer.payments payment place state × IsUnpaid seen payer state reason))
