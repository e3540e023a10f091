-- Reading a payment.
use Rattle.std.specs.Prelude.{ℕ, ◌==◌, ◌&&◌, nat_le, List, length, Option, Some, None, Result, Ok, Err, if◌then◌else◌}
use Rattle.std.specs.Int.{w8, w16, w32, w64}
use Rattle.lgm_payer.specs.declared.invoice.Invoice.{Invoice}
use Rattle.lgm_payer.specs.declared.bounds.Bounds.{Bounds}
use Rattle.lgm_payer.specs.declared.failure.Failure.{Failure}
use Rattle.lgm_payer.specs.declared.failure.Ending.{Ending}
use Rattle.lgm_payer.specs.declared.failure.Ending.TheVariants.{Unreadable, Failed}
use Rattle.lgm_payer.specs.declared.part.Part.{Part}
use Rattle.lgm_payer.specs.declared.stage.Stage.{Stage}
use Rattle.lgm_payer.specs.declared.stage.Stage.TheVariants.{Open, Abandoned, Paid}
use Rattle.lgm_graph.specs.declared.route.Hop.{Hop}
use Rattle.lgm_payer.specs.Payments.{PaymentState}
use Rattle.lgm_payer.specs.Restoring.{restored}
use Rattle.lgm_payer_state.specs.declared.state_fault.StateFault.{StateFault}
use Rattle.lgm_payer_state.specs.declared.state_fault.StateFault.TheVariants.{Damaged}
use Rattle.lgm_payer_state.specs.reading.Reading.{Reader, fixed_at, number_at, flag_at, list_at, made, made_if, made_of, refused}
use Rattle.lgm_payer_state.specs.reading.InOrder.{◌>>=◌}
use Rattle.lgm_payer_state.specs.reading.EdgesReading.{point_at, extra_edge_at, hop_at}
use Rattle.lgm_payer_state.specs.reading.ArrivalsReading.{arrival_at}

unfoldable pub invoice_at : Reader Invoice
invoice_at = do
  payee ← point_at
  amount ← number_at w64
  secret ← fixed_at 32
  final_delta ← number_at w16
  basic_mpp ← flag_at
  made (record { payee = payee; amount = amount; secret = secret; final_delta = final_delta; basic_mpp = basic_mpp })

unfoldable pub bounds_at : Reader Bounds
bounds_at = do
  most_fee ← number_at w64
  most_tries ← number_at w64
  most_parts ← number_at w64
  least_part ← number_at w64
  most_blocks ← number_at w16
  made (record {
    most_fee = most_fee;
    most_tries = most_tries;
    most_parts = most_parts;
    least_part = least_part;
    most_blocks = most_blocks;
  })

abbrev pub stage_of : ℕ → Reader Stage
stage_of number = if number == 0 then made Open else if number == 1 then made Abandoned else made_if (number == 2) Paid

unfoldable pub stage_at : Reader Stage
stage_at = do
  number ← number_at w8
  stage_of number

unfoldable pub failure_at : Reader Failure
failure_at = do
  place ← number_at w64
  code ← number_at w16
  is_renewed ← flag_at
  made (record { place = place; code = code; is_renewed = is_renewed })

abbrev pub failed_at : Reader (Option Ending)
failed_at = do
  failure ← failure_at
  made (Some (Failed failure))

abbrev pub ending_of : ℕ → Reader (Option Ending)
ending_of number =
    if number == 0 then made None else if number == 1 then made (Some Unreadable)
    else if number == 2 then failed_at else refused

unfoldable pub ending_at : Reader (Option Ending)
ending_at = do
  number ← number_at w8
  ending_of number

-- the route of hops, of which there are 1 to 20
abbrev pub route_of : List Hop → Result (List Hop) StateFault
route_of hops = if nat_le 1 (length hops) && nat_le (length hops) 20 then Ok hops else Err Damaged

unfoldable pub part_at : Reader Part
part_at = do
  number ← number_at w64
  hops ← list_at hop_at
  route ← made_of (route_of hops)
  amount ← number_at w64
  fee ← number_at w64
  blocks ← number_at w32
  ending ← ending_at
  made (record { number = number; route = route; amount = amount; fee = fee; blocks = blocks; ending = ending })

-- the payment, if it can be one
abbrev pub payment_of : Option PaymentState → Result PaymentState StateFault
payment_of None = Err Damaged
payment_of (Some payment) = Ok payment

unfoldable pub payment_at : Reader PaymentState
payment_at = do
  number ← number_at w64
  payer ← point_at
  invoice ← invoice_at
  hints ← list_at extra_edge_at
  arrival ← arrival_at
  bounds ← bounds_at
  stage ← stage_at
  parts ← list_at part_at
  made_of (payment_of (restored (record {
    number = number;
    payer = payer;
    invoice = invoice;
    hints = hints;
    arrival = arrival;
    bounds = bounds;
    stage = stage;
    parts = parts;
  })))
