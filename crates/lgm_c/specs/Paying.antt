-- Payers, as C says and gets them: what it tells them, and what they send.
use Rattle.std.specs.Prelude.{◌≡◌, ◌⊎◌, ℕ, ◌<◌, List, [], map, length, Option, Some, None, Bool, if◌then◌else◌}
use Rattle.lgm_graph.specs.Estimates.{Entries}
use Rattle.lgm_route.specs.declared.preferences.Preferences.{Preferences}
use Rattle.lgm_payer.specs.declared.bounds.Bounds.{Bounds}
use Rattle.lgm_payer.specs.declared.failure.Ending.{Ending}
use Rattle.lgm_payer.specs.declared.failure.Failure.{Failure}
use Rattle.lgm_payer.specs.declared.invoice.Invoice.{Invoice}
use Rattle.lgm_payer.specs.declared.offer.Sending.{Sending}
use Rattle.lgm_payer.specs.declared.payer_fault.PayerFault.{PayerFault}
use Rattle.lgm_payer.specs.declared.unpaid.Unpaid.{Unpaid}
use Rattle.lgm_payer.specs.declared.unpaid.Unpaid.TheVariants as asked
use Rattle.lgm_payer.specs.declared.unfound.Unfound.{Unfound}
use Rattle.lgm_payer.specs.declared.unfound.Unfound.TheVariants as sought
use Rattle.lgm_payer.specs.Payers.{PayerState, Seen, IsSentIn, IsWhole, IsUnpaidIn}
use Rattle.lgm_payer.specs.Beginning.{IsBegun, IsUnbegun}
use Rattle.lgm_payer.specs.Events.{IsEndedIn, IsFulfilledIn, IsAbandonedIn, IsForgottenIn, IsRefused}
use Rattle.lgm_payer.specs.Events.{ending_checked, fault_in, fulfilling_fault, abandoning_fault, forgetting_fault}
use Rattle.lgm_c.specs.declared.fault.Fault.TheVariants as faults
use Rattle.lgm_c.specs.declared.invoice.LgmInvoice.{LgmInvoice}
use Rattle.lgm_c.specs.declared.invoice.LgmBounds.{LgmBounds}
use Rattle.lgm_c.specs.declared.next_part.LgmSight.{LgmSight}
use Rattle.lgm_c.specs.declared.next_part.LgmPart.{LgmPart}
use Rattle.lgm_c.specs.declared.routes.LgmHop.{LgmHop}
use Rattle.lgm_c.specs.Arrivals.{metadata_given, records_given}
use Rattle.lgm_c.specs.Attempts.{extra_given}
use Rattle.lgm_c.specs.MapState.{MapState}
use Rattle.lgm_c.specs.Opening.{Opens}
use Rattle.lgm_c.specs.Routing.{c_hops, all_payloads, lengths_of}
use Rattle.lgm_c.specs.Status.{number_of, no_memory, untold, unpaid}
use Rattle.lgm_c.specs.Writing.{in_front}

-- a payer that has begun no payment, and has learnt this
abbrev pub new_payer : List ℕ → Entries → PayerState
new_payer point learnt =
    record { point = record { 0 = point }; payments = []; learnt = learnt; begun = 0; sent = 0; settled = 0 }

-- how many parts it sent: none, of a closed handle
abbrev pub sent_by : Option PayerState → ℕ
sent_by None = 0
sent_by (Some payer) = payer.sent

-- ---- what C says

abbrev pub invoice_given : LgmInvoice → Invoice
invoice_given invoice = record {
  payee = record { 0 = invoice.payee };
  amount = invoice.amount_msat;
  secret = invoice.secret;
  final_delta = invoice.min_final_cltv_expiry_delta;
  basic_mpp = invoice.basic_mpp;
}

abbrev pub bounds_given : LgmBounds → Bounds
bounds_given bounds = record {
  most_fee = bounds.most_fee_msat;
  most_tries = bounds.most_tries;
  most_parts = bounds.most_parts;
  least_part = bounds.least_part_msat;
  most_blocks = bounds.most_blocks;
}

abbrev pub failure_given : ℕ → ℕ → Bool → Failure
failure_given place code is_renewed = record { place = place; code = code; is_renewed = is_renewed }

abbrev pub preferences_chosen : LgmSight → Option Preferences
preferences_chosen sight =
    if sight.prefers then Some (record { failure_msat = sight.failure_msat; hop_msat = sight.hop_msat }) else None

-- what a payer sees in a map whose view numbers so many points
abbrev pub seen_given : LgmSight → MapState → ℕ → Seen
seen_given sight state points = record {
  known = state.known;
  rows = state.rows;
  points = points;
  own = map extra_given sight.channels.now;
  reckoned = sight.reckoned;
  preferences = preferences_chosen sight;
  height = sight.height;
}

-- ---- what a payer is told

-- it happened, or was refused for this reason; a closed handle has only its fault
abbrev pub Tells : (PayerState → PayerState → Type 0) → (PayerState → PayerFault → Type 0) → ℕ → Option PayerState → Option PayerState → Type 0
Tells happens refuses status None new = (status ≡ number_of faults.Closed) × (new ≡ None)
Tells happens refuses status (Some old) None = ⊥
Tells happens refuses status (Some old) (Some new) =
    ((status ≡ 0) × happens old new)
    ⊎ ((fault : PayerFault) × refuses old fault × (status ≡ number_of (untold fault)) × (new ≡ old))

abbrev pub Ends : ℕ → ℕ → Ending → ℕ → Option PayerState → Option PayerState → Type 0
Ends payment part ending =
    Tells (λ old new. IsEndedIn old new payment part ending)
    (λ old fault. IsRefused (λ state. fault_in (ending_checked state part ending)) old payment fault)

abbrev pub Fulfils : ℕ → ℕ → Option PayerState → Option PayerState → Type 0
Fulfils payment = Tells (λ old new. IsFulfilledIn old new payment) (λ old fault. IsRefused fulfilling_fault old payment fault)

abbrev pub Abandons : ℕ → ℕ → Option PayerState → Option PayerState → Type 0
Abandons payment = Tells (λ old new. IsAbandonedIn old new payment) (λ old fault. IsRefused abandoning_fault old payment fault)

abbrev pub Forgets : ℕ → ℕ → Option PayerState → Option PayerState → Type 0
Forgets payment = Tells (λ old new. IsForgottenIn old new payment) (λ old fault. IsRefused forgetting_fault old payment fault)

-- a payment was begun, and its number written
abbrev pub IsBegunBy : LgmInvoice → LgmBounds → ℕ → PayerState → PayerState → Type 0
IsBegunBy invoice bounds number old new =
    IsBegun old new number (invoice_given invoice) (map extra_given invoice.hints.now) (metadata_given invoice.metadata.now)
    (records_given invoice.records.now) (bounds_given bounds)

-- or nothing was, for this reason
abbrev pub Begins : LgmInvoice → LgmBounds → ℕ → ℕ → ℕ → Option PayerState → Option PayerState → Type 0
Begins invoice bounds status before after None new = (status ≡ number_of faults.Closed) × (after ≡ before) × (new ≡ None)
Begins invoice bounds status before after (Some old) None = ⊥
Begins invoice bounds status before after (Some old) (Some new) =
    ((status ≡ 0) × IsBegunBy invoice bounds after old new)
    ⊎ ((fault : PayerFault) × IsUnbegun old (invoice_given invoice) (bounds_given bounds) fault
    × (status ≡ number_of (untold fault)) × (after ≡ before) × (new ≡ old))

-- ---- what was learnt

-- a closed handle is opened with a copy of what was learnt, if the payer's is open
abbrev pub CopiesLearnt : Option PayerState → ℕ → Option Entries → Option Entries → Type 0
CopiesLearnt None status old new = (status ≡ number_of faults.Closed) × (new ≡ old)
CopiesLearnt (Some payer) status old new = Opens payer.learnt status old new

-- ---- the next part

-- the caller's buffers
pub record PartBuffers : Type 0 where
  pub part : LgmPart
  pub hops : List LgmHop
  pub payloads : List ℕ

abbrev pub part_buffers : LgmPart → List LgmHop → List ℕ → PartBuffers
part_buffers part hops payloads = record { part = part; hops = hops; payloads = payloads }

-- a part that was sent, as C gets it
abbrev pub c_part : Sending → ℕ → LgmPart
c_part sending detail = record {
  part = sending.part.number;
  amount_msat = sending.part.amount;
  fee_msat = sending.part.fee;
  detail = detail;
  lengths = lengths_of (c_hops sending.part.route sending.payloads) (all_payloads sending.payloads);
  odds = sending.odds;
  blocks = sending.part.blocks;
  is_best = sending.is_best;
}

-- it was written, with its hops and their payloads
abbrev pub sent_buffers : Sending → PartBuffers → PartBuffers
sent_buffers sending old = record {
  part = c_part sending old.part.detail;
  hops = in_front (c_hops sending.part.route sending.payloads) old.hops;
  payloads = in_front (all_payloads sending.payloads) old.payloads;
}

-- what comes with a reason why nothing is sent: the fee of the cheapest route, what can be sent or carried together, or the
-- failure code
abbrev pub detail_of_unfound : Unfound → Option ℕ
detail_of_unfound (sought.Search reason) = None
detail_of_unfound (sought.TooDear fee) = Some fee
detail_of_unfound (sought.Short room) = Some room
detail_of_unfound (sought.PayeeShort room) = Some room
detail_of_unfound (sought.PathsShort room) = Some room

abbrev pub detail_of : Unpaid → Option ℕ
detail_of asked.UnknownPayment = None
detail_of asked.ForeignChannel = None
detail_of asked.ReckonedAhead = None
detail_of asked.ReckonedBefore = None
detail_of asked.TooManyPoints = None
detail_of asked.Abandoned = None
detail_of (asked.PayeeRefused code) = Some code
detail_of asked.TriesUsedUp = None
detail_of (asked.Unfound reason) = detail_of_unfound reason
detail_of (asked.Payloads reason) = None
detail_of asked.NumbersUsedUp = None

abbrev pub detailed : Option ℕ → LgmPart → LgmPart
detailed None part = part
detailed (Some detail) part = record part { detail = detail }

abbrev pub with_detail : Option ℕ → PartBuffers → PartBuffers
with_detail detail old = record old { part = detailed detail old.part }

-- the number of a call by which nothing is to be sent
abbrev pub whole : ℕ
whole = 28

-- buffers that are too short for any part: the lengths that are needed were written
abbrev pub are_too_short : PartBuffers → Type 0
are_too_short old = (length old.hops < 20) ⊎ (length old.payloads < 1300)

abbrev pub with_room : PartBuffers → PartBuffers
with_room old = record old { part = record old.part { lengths = record { hops = 20; payloads = 1300 } } }

-- a part was sent and written; or none is to be; or none can be, for this reason; or nothing was asked, since a buffer is too
-- short, there are too many channels, or memory ran out
abbrev pub SendsBeside : Seen → ℕ → ℕ → PayerState → PayerState → PartBuffers → PartBuffers → Type 0
SendsBeside seen payment status payer after old new =
    ((sending : Sending) × (status ≡ 0) × IsSentIn seen payer after payment sending × (new ≡ sent_buffers sending old))
    ⊎ ((status ≡ whole) × IsWhole payer payment × (after ≡ payer) × (new ≡ old))
    ⊎ ((reason : Unpaid) × IsUnpaidIn seen payer payment reason × (status ≡ number_of (unpaid reason)) × (after ≡ payer)
    × (new ≡ with_detail (detail_of reason) old))

abbrev pub SendsIn : LgmSight → ℕ → ℕ → MapState → PayerState → PayerState → PartBuffers → PartBuffers → Type 0
SendsIn sight payment status state payer after old new =
    ((status ≡ number_of faults.Room) × are_too_short old × (after ≡ payer) × (new ≡ with_room old))
    ⊎ ((status ≡ number_of faults.Full) × (2000000000 < length state.rows.channels) × (after ≡ payer) × (new ≡ old))
    ⊎ ((status ≡ no_memory) × (after ≡ payer) × (new ≡ old))
    ⊎ ((points : ℕ) × SendsBeside (seen_given sight state points) payment status payer after old new)

-- so it is with the map of a handle, and with the payer of another
abbrev pub SendsOver : LgmSight → ℕ → ℕ → Option MapState → PayerState → PayerState → PartBuffers → PartBuffers → Type 0
SendsOver sight payment status None payer after old new = (status ≡ number_of faults.Closed) × (after ≡ payer) × (new ≡ old)
SendsOver sight payment status (Some state) payer after old new = SendsIn sight payment status state payer after old new

abbrev pub Sends : LgmSight → ℕ → ℕ → Option MapState → Option PayerState → Option PayerState → PartBuffers → PartBuffers → Type 0
Sends sight payment status map None after old new = (status ≡ number_of faults.Closed) × (after ≡ None) × (new ≡ old)
Sends sight payment status map (Some payer) None old new = ⊥
Sends sight payment status map (Some payer) (Some after) old new = SendsOver sight payment status map payer after old new
