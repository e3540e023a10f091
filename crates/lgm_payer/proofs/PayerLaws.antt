-- What a call about one payment makes of its payer.
use Rattle.std.proofs.Common.{◌≡◌, ◌∙◌, ℕ, ◌+◌, List, Option, Some, Result, Ok, Err, refl, sym, ap, subst, inl, inr}
use Rattle.std.specs.Prelude.{slice_get, slice_set, IfErr, IfSome}
use Rattle.lgm_wire.specs.declared.point.Point.{Point}
use Rattle.lgm_wire.specs.reading.Reading.{Gives}
use Rattle.lgm_graph.specs.Estimates.{Entries}
use Rattle.lgm_graph.specs.declared.route.Hop.{Hop}
use Rattle.lgm_route.specs.declared.fault.RouteFault.TheVariants.{NoMemory}
use Rattle.lgm_route.specs.declared.found.SearchFault.TheVariants.{Fault}
use Rattle.lgm_payload.specs.Arrival.{ArrivalParts}
use Rattle.lgm_payload.specs.declared.arrival_fault.ArrivalFault.TheVariants as arrivals
use Rattle.lgm_payer.specs.declared.offer.Sending.{Sending}
use Rattle.lgm_payer.specs.declared.part.Part.{Part}
use Rattle.lgm_payer.specs.declared.unpaid.Unpaid.{Unpaid}
use Rattle.lgm_payer.specs.declared.unfound.Unfound.TheVariants as unfound
use Rattle.lgm_payer.specs.declared.unpaid.Unpaid.TheVariants as unpaid
use Rattle.lgm_payload.specs.Building.{built_for}
use Rattle.lgm_odds.specs.Lessons.{AreTaught, believed}
use Rattle.lgm_odds.specs.RouteOdds.{route_odds}
use Rattle.lgm_odds.specs.Room.{room_into}
use Rattle.lgm_payer.specs.declared.failure.Ending.{Ending}
use Rattle.lgm_payer.specs.declared.offer.Offer.{Offer}
use Rattle.lgm_payer.specs.Parts.{part_of}
use Rattle.lgm_payer.specs.Payments.{PaymentState, with_sent}
use Rattle.lgm_payer.specs.UnderWay.{all_under_way, all_since}
use Rattle.lgm_payer.specs.Overlays.{extra_of, limits_of}
use Rattle.lgm_payer.specs.Learning.{learnt_at}
use Rattle.lgm_payer.specs.Preferring.{preferences_for}
use Rattle.lgm_payer.specs.Searches.{IsOffered, penalty_with, room_out}
use Rattle.lgm_payer.specs.Payers.{PayerState, Seen, IsPayment, IsSentIn, IsUnpaidIn, prospect_in}
use Rattle.lgm_payer.specs.Looking.{IsReady}
use Rattle.lgm_payer.proofs.RoomLaws.{found_room}

-- a part of a payment was sent over what was offered
pub sent_in : (seen : Seen) (old new : PayerState) (payment place : ℕ) (sending : Sending) (before after : PaymentState)
    (offer : Offer) → IsPayment old.payments payment place before
    → IsReady seen old before → IsOffered (prospect_in seen old before) before offer
    → built_for before.arrival offer.found.route ≡ Ok sending.payloads → sending.odds ≡ offer.odds
    → sending.is_best ≡ offer.found.is_best
    → sending.part ≡ part_of old.sent offer.found.route offer.amount seen.height
    → after ≡ with_sent sending.part before
    → new ≡ record old { payments = slice_set old.payments place after; sent = old.sent + 1 }
    → IsSentIn seen old new payment sending
sent_in seen old new payment place sending before after offer is ready offered built odd best part sent news =
    record {
      place = place;
      before = before;
      offer = offer;
      is = is;
      seen_well = ready.seen_well;
      stays_open = ready.stays_open;
      unrefused = ready.unrefused;
      tries = ready.tries;
      offered = offered;
      room =
          let busy = all_under_way old.payments in
          let since = all_since seen.reckoned old.payments in
          found_room seen.rows before seen.own since busy seen.known
          (penalty_with (preferences_for seen.preferences before) (believed old.learnt busy))
          (route_odds seen.rows (extra_of before seen.own since busy) (limits_of before seen.rows busy) (believed old.learnt busy))
          seen.height (room_out before.payer (extra_of before seen.own since busy))
          (room_into seen.rows (extra_of before seen.own since busy) (limits_of before seen.rows busy) (believed old.learnt busy)
          before.invoice.payee) offer.amount (prospect_in seen old before).capacities offer.found offered.fit.share.some offered.fit.route;
      payloads_are = built;
      odds_are = odd;
      best_is = best;
      part_is = part;
      sends = news ∙ ap (λ (p : PaymentState). let payer : PayerState =
          record old { payments = slice_set old.payments place p; sent = old.sent + 1 } in payer) sent;
    }

-- out of memory sends nothing
pub memory_in : (seen : Seen) (payer : PayerState) (payment place : ℕ) (before : PaymentState) (answer : Result (Option Sending) Unpaid)
    → IsPayment payer.payments payment place before
    → IfErr answer (λ reason. reason ≡ unpaid.Unfound (unfound.Search (Fault NoMemory)))
    → IfErr answer (IsUnpaidIn seen payer payment)
memory_in seen payer payment place before (Ok next) is memory = tt
memory_in seen payer payment place before (Err reason) is memory =
    subst (λ (r : Unpaid). IsUnpaidIn seen payer payment r) (sym memory) (inr (place, (before, is, inl refl)))

-- payloads that were built
pub built_at : (arrival given : ArrivalParts) (route : List Hop) (payloads : List (List ℕ)) → given ≡ arrival
    → Gives arrivals.NoMemory (λ payloads. payloads) (Ok payloads) (built_for given route)
    → built_for arrival route ≡ Ok payloads
built_at arrival given route payloads same gives =
    subst (λ (a : ArrivalParts). built_for a route ≡ Ok payloads) same gives

-- a part that was sent of a payment that is the same
pub sends_same : (lent before after : PaymentState) (part : Part) → lent ≡ before → after ≡ with_sent part lent
    → after ≡ with_sent part before
sends_same lent before after part same sent = subst (λ (p : PaymentState). after ≡ with_sent part p) same sent

-- the payer once a part was sent
pub new_payer : (point : Point) (payments : List PaymentState) (learnt : Entries) (begun sent settled place next : ℕ) (after : PaymentState)
    (old : PayerState)
    → let inside : PayerState = record { point = point; payments = payments; learnt = learnt; begun = begun; sent = sent; settled = settled } in
    inside ≡ old → next ≡ sent + 1
    → let new : PayerState = record {
      point = point;
      payments = slice_set payments place after;
      learnt = learnt;
      begun = begun;
      sent = next;
      settled = settled;
    } in
    new ≡ record old { payments = slice_set old.payments place after; sent = old.sent + 1 }
new_payer point payments learnt begun sent settled place next after old is more =
    ap (λ n. let new : PayerState = record {
      point = point;
      payments = slice_set payments place after;
      learnt = learnt;
      begun = begun;
      sent = n;
      settled = settled;
    } in new) more
    ∙ ap (λ (p : PayerState). let new : PayerState = record p { payments = slice_set p.payments place after; sent = p.sent + 1 } in new) is

-- what a part's failure teaches beside all that is under way
pub taught_beside : (payer : PayerState) (place at : ℕ) (ending : Ending) (before : PaymentState) (busy : List Hop) (copied new : Entries)
    → slice_get payer.payments place ≡ Some before → busy ≡ all_under_way payer.payments → copied ≡ payer.learnt
    → AreTaught (learnt_at before busy at ending) copied new
    → IfSome (slice_get payer.payments place) (λ payment.
    AreTaught (learnt_at payment (all_under_way payer.payments) at ending) payer.learnt new)
taught_beside payer place at ending before busy copied new there all same taught =
    rw there (subst (λ (hops : List Hop). AreTaught (learnt_at before hops at ending) payer.learnt new) all
    (subst (λ (old : Entries). AreTaught (learnt_at before busy at ending) old new) same taught))
