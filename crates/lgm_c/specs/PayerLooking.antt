-- Payments and their parts, as C gets them.
use Rattle.std.specs.Prelude.{◌≡◌, ◌⊎◌, ℕ, ◌<◌, ◌||◌, Bool, nat_lt, min, List, [], length, map, count_by, find, slice_get}
use Rattle.std.specs.Prelude.{Option, Some, None, Result, Ok, Err}
use Rattle.std.specs.Option.{option_and_then}
use Rattle.lgm_graph.specs.declared.route.Hop.{Hop}
use Rattle.lgm_payer.specs.declared.failure.Ending.{Ending}
use Rattle.lgm_payer.specs.declared.failure.Ending.TheVariants.{Unreadable, Failed}
use Rattle.lgm_payer.specs.declared.part.Part.{Part}
use Rattle.lgm_payer.specs.declared.stage.Stage.{Stage}
use Rattle.lgm_payer.specs.declared.stage.Stage.TheVariants.{Open, Abandoned, Paid}
use Rattle.lgm_payer.specs.Parts.{is_held}
use Rattle.lgm_payer.specs.Payments.{PaymentState, left, fees}
use Rattle.lgm_payer.specs.Payers.{PayerState, payment_place}
use Rattle.lgm_c.specs.declared.fault.Fault.{Fault}
use Rattle.lgm_c.specs.declared.fault.Fault.TheVariants as faults
use Rattle.lgm_c.specs.declared.payment_fault.PaymentFault.TheVariants as payments
use Rattle.lgm_c.specs.declared.payer_lookups.LgmPaymentInfo.{LgmPaymentInfo}
use Rattle.lgm_c.specs.declared.payer_lookups.LgmPartInfo.{LgmPartInfo}
use Rattle.lgm_c.specs.declared.routes.LgmHop.{LgmHop}
use Rattle.lgm_c.specs.Routing.{c_hop}
use Rattle.lgm_c.specs.Status.{number_of}
use Rattle.lgm_c.specs.Writing.{in_front}

abbrev pub stage_number : Stage → ℕ
stage_number Open = 0
stage_number Abandoned = 1
stage_number Paid = 2

-- how many parts haven't failed
abbrev pub parts_held : List Part → ℕ
parts_held parts = count_by is_held parts

abbrev pub c_payment : PaymentState → LgmPaymentInfo
c_payment payment = record {
  amount_msat = payment.invoice.amount;
  left_msat = left payment;
  fee_msat = fees payment;
  parts = length payment.parts;
  parts_held = parts_held payment.parts;
  stage = stage_number payment.stage;
}

-- the payment with a number
abbrev pub payment_numbered : ℕ → PayerState → Option PaymentState
payment_numbered number payer = option_and_then (slice_get payer.payments) (payment_place payer.payments number)

abbrev pub payment_or : Option PaymentState → Result LgmPaymentInfo Fault
payment_or (Some payment) = Ok (c_payment payment)
payment_or None = Err (faults.Payment payments.UnknownPayment)

abbrev pub payment_found : ℕ → PayerState → Result LgmPaymentInfo Fault
payment_found number payer = payment_or (payment_numbered number payer)

-- the number of the first payment, or of the first one of a greater number than this
abbrev pub next_number : Bool → ℕ → List PaymentState → Option ℕ
next_number is_first number all = option_and_then (λ (payment : PaymentState). Some payment.number)
    (find (λ payment. is_first || nat_lt number payment.number) all)

abbrev pub number_or : Option ℕ → Result ℕ Fault
number_or (Some number) = Ok number
number_or None = Err faults.None

abbrev pub next_found : Bool → ℕ → PayerState → Result ℕ Fault
next_found is_first number payer = number_or (next_number is_first number payer.payments)

-- ---- parts

-- how it ended, and by which failure
abbrev pub ending_number : Option Ending → ℕ
ending_number None = 0
ending_number (Some Unreadable) = 1
ending_number (Some (Failed failure)) = 2

abbrev pub code_of : Option Ending → ℕ
code_of None = 0
code_of (Some Unreadable) = 0
code_of (Some (Failed failure)) = failure.code

abbrev pub place_of : Option Ending → ℕ
place_of None = 0
place_of (Some Unreadable) = 0
place_of (Some (Failed failure)) = min failure.place 255

abbrev pub c_part_info : Part → LgmPartInfo
c_part_info part = record {
  part = part.number;
  amount_msat = part.amount;
  fee_msat = part.fee;
  hops = length part.route;
  blocks = part.blocks;
  ending = ending_number part.ending;
  code = code_of part.ending;
  place = place_of part.ending;
}

abbrev pub part_or : Option Part → Result Part Fault
part_or (Some part) = Ok part
part_or None = Err faults.None

-- the part at a place of the payment, if there is one
abbrev pub part_of : ℕ → Option PaymentState → Result Part Fault
part_of place (Some payment) = part_or (slice_get payment.parts place)
part_of place None = Err (faults.Payment payments.UnknownPayment)

abbrev pub part_at : ℕ → ℕ → PayerState → Result Part Fault
part_at number place payer = part_of place (payment_numbered number payer)

-- a hop, without a payload
abbrev pub bare_hop : Hop → LgmHop
bare_hop hop = c_hop hop []

-- what a part is written to
pub record PartRoom : Type 0 where
  pub info : LgmPartInfo
  pub hops : List LgmHop

abbrev pub part_room : LgmPartInfo → List LgmHop → PartRoom
part_room info hops = record { info = info; hops = hops }

-- it was written with its hops, or without them, if there is no room for them
abbrev pub WritesPart : Part → ℕ → PartRoom → PartRoom → Type 0
WritesPart part status old new =
    (new.info ≡ c_part_info part)
    × (((status ≡ 0) × (new.hops ≡ in_front (map bare_hop part.route) old.hops))
    ⊎ ((status ≡ number_of faults.Room) × (length old.hops < length part.route) × (new.hops ≡ old.hops)))

abbrev pub WritesPartOf : Result Part Fault → ℕ → PartRoom → PartRoom → Type 0
WritesPartOf (Ok part) status old new = WritesPart part status old new
WritesPartOf (Err fault) status old new = (status ≡ number_of fault) × (new ≡ old)
