-- What a search for a part is over, as its code has it.
use Rattle.std.specs.Prelude.{◌≡◌, ◌⊎◌, ◌<◌, ◌≤◌, length, Option, Some, None, Result, Ok, Err}
use Rattle.lgm_graph.specs.Overlay.{overlaid_edges}
use Rattle.lgm_graph.specs.Estimates.{estimate_of}
use Rattle.lgm_odds.specs.RouteOdds.{route_odds}
use Rattle.lgm_route.specs.declared.fault.RouteFault.TheVariants as faults
use Rattle.lgm_route.specs.declared.found.SearchFault.TheVariants.{Fault}
use Rattle.lgm_payer.specs.declared.offer.Offer.{Offer}
use Rattle.lgm_payer.specs.declared.sight.Outlook.{Outlook}
use Rattle.lgm_payer.specs.declared.sight.Sight.{Sight}
use Rattle.lgm_payer.specs.declared.unfound.Unfound.{Unfound}
use Rattle.lgm_payer.specs.declared.unfound.Unfound.TheVariants as unfound
use Rattle.lgm_payer.specs.declared.stage.Stage.TheVariants.{Open, Abandoned}
use Rattle.lgm_payer.specs.declared.unpaid.Unpaid.{Unpaid}
use Rattle.lgm_payer.specs.declared.unpaid.Unpaid.TheVariants as unpaid
use Rattle.lgm_payer.specs.Payments.{PaymentState, left}
use Rattle.lgm_payer.specs.Searches.{Prospect, penalty_with, refusal_of, IsShort, IsLast}
use Rattle.lgm_payer.specs.Payers.{PayerState, Seen, sight_fault}

-- the prospect of an outlook
abbrev pub prospect_at : Outlook → Prospect
prospect_at outlook = record {
  penalty = penalty_with outlook.preferences (estimate_of outlook.estimates.now);
  odds = route_odds outlook.map.now outlook.extra.now outlook.limits.now (estimate_of outlook.estimates.now);
  edges = overlaid_edges outlook.view.now.known outlook.map.now outlook.overlay.now;
  height = outlook.height;
  room = outlook.room;
  payee_room = outlook.payee_room;
  capacities = record {
    rows = outlook.map.now;
    extra = outlook.extra.now;
    limits = outlook.limits.now;
    believed = estimate_of outlook.estimates.now;
    payer = outlook.payer;
  };
}

-- out of memory, or a cut that can't carry what is left
abbrev pub IsCutOff : Prospect → PaymentState → Unfound → Type 0
IsCutOff prospect payment reason = (reason ≡ unfound.Search (Fault faults.NoMemory)) ⊎ IsShort prospect payment reason

-- out of memory, or a cut that can't carry what is left, or why there is no route
abbrev pub IsUnfound : Prospect → PaymentState → Unfound → Type 0
IsUnfound prospect payment reason =
    (reason ≡ unfound.Search (Fault faults.NoMemory)) ⊎ (IsShort prospect payment reason ⊎ IsLast prospect payment reason)

-- the best of what was tried, or else the reason of the last
abbrev pub best_or : Option Offer → Unfound → Result Offer Unfound
best_or None reason = Err reason
best_or (Some offer) reason = Ok offer

-- what a payer sees
abbrev pub seen : Sight → Seen
seen sight = record {
  known = sight.view.now.known;
  rows = sight.map.now;
  points = length sight.view.now.points;
  own = sight.own.now;
  reckoned = sight.reckoned;
  preferences = sight.preferences;
  height = sight.height;
}

-- a part of a payment may be sent
pub record IsReady (seen : Seen) (payer : PayerState) (payment : PaymentState) : Type 0 where
  pub seen_well : sight_fault seen payer payment ≡ None
  pub stays_open : payment.stage ≡ Open
  pub unrefused : refusal_of payment.parts ≡ None
  pub tries : length payment.parts < payment.bounds.most_tries
  pub some : 0 < left payment

-- why not
abbrev pub IsUnready : Seen → PayerState → PaymentState → Unpaid → Type 0
IsUnready seen payer payment unpaid.UnknownPayment = ⊥
IsUnready seen payer payment unpaid.ForeignChannel = sight_fault seen payer payment ≡ Some unpaid.ForeignChannel
IsUnready seen payer payment unpaid.ReckonedAhead = sight_fault seen payer payment ≡ Some unpaid.ReckonedAhead
IsUnready seen payer payment unpaid.ReckonedBefore = sight_fault seen payer payment ≡ Some unpaid.ReckonedBefore
IsUnready seen payer payment unpaid.TooManyPoints = sight_fault seen payer payment ≡ Some unpaid.TooManyPoints
IsUnready seen payer payment unpaid.Abandoned = payment.stage ≡ Abandoned
IsUnready seen payer payment (unpaid.PayeeRefused code) = refusal_of payment.parts ≡ Some code
IsUnready seen payer payment unpaid.TriesUsedUp = payment.bounds.most_tries ≤ length payment.parts
IsUnready seen payer payment (unpaid.Unfound reason) = ⊥
IsUnready seen payer payment (unpaid.Payloads fault) = ⊥
IsUnready seen payer payment unpaid.NumbersUsedUp = ⊥
