-- The bytes of a payment.
use Rattle.std.specs.Prelude.{ℕ, List, ◌++◌, Option, Some, None}
use Rattle.std.specs.Int.{w8, w16, w32, w64}
use Rattle.lgm_payer.specs.declared.invoice.Invoice.{Invoice}
use Rattle.lgm_payer.specs.declared.bounds.Bounds.{Bounds}
use Rattle.lgm_payer.specs.declared.failure.Failure.{Failure}
use Rattle.lgm_payer.specs.declared.failure.Ending.{Ending}
use Rattle.lgm_payer.specs.declared.failure.Ending.TheVariants.{Unreadable, Failed}
use Rattle.lgm_payer.specs.declared.part.Part.{Part}
use Rattle.lgm_payer.specs.declared.stage.Stage.{Stage}
use Rattle.lgm_payer.specs.declared.stage.Stage.TheVariants.{Open, Abandoned, Paid}
use Rattle.lgm_payer.specs.Payments.{PaymentState}
use Rattle.lgm_payer_state.specs.Written.{number_bytes, flag_bytes, list_bytes}
use Rattle.lgm_payer_state.specs.Edges.{point_bytes, extra_edge_bytes, hop_bytes}
use Rattle.lgm_payer_state.specs.Arrivals.{arrival_bytes}

unfoldable pub invoice_bytes : Invoice → List ℕ
invoice_bytes invoice =
    point_bytes invoice.payee ++ number_bytes w64 invoice.amount ++ invoice.secret ++ number_bytes w16 invoice.final_delta
    ++ flag_bytes invoice.basic_mpp

unfoldable pub bounds_bytes : Bounds → List ℕ
bounds_bytes bounds =
    number_bytes w64 bounds.most_fee ++ number_bytes w64 bounds.most_tries ++ number_bytes w64 bounds.most_parts
    ++ number_bytes w64 bounds.least_part ++ number_bytes w16 bounds.most_blocks

abbrev pub stage_number : Stage → ℕ
stage_number Open = 0
stage_number Abandoned = 1
stage_number Paid = 2

unfoldable pub stage_bytes : Stage → List ℕ
stage_bytes stage = number_bytes w8 (stage_number stage)

unfoldable pub failure_bytes : Failure → List ℕ
failure_bytes failure =
    number_bytes w64 failure.place ++ number_bytes w16 failure.code ++ flag_bytes failure.is_renewed

-- how a part ended: 0 if it hasn't failed, 1 if no failure message could be read, or 2 and the failure
unfoldable pub ending_bytes : Option Ending → List ℕ
ending_bytes None = number_bytes w8 0
ending_bytes (Some Unreadable) = number_bytes w8 1
ending_bytes (Some (Failed failure)) = number_bytes w8 2 ++ failure_bytes failure

unfoldable pub part_bytes : Part → List ℕ
part_bytes part =
    number_bytes w64 part.number ++ list_bytes hop_bytes part.route ++ number_bytes w64 part.amount ++ number_bytes w64 part.fee
    ++ number_bytes w32 part.blocks ++ ending_bytes part.ending

unfoldable pub payment_bytes : PaymentState → List ℕ
payment_bytes payment =
    number_bytes w64 payment.number ++ point_bytes payment.payer ++ invoice_bytes payment.invoice
    ++ list_bytes extra_edge_bytes payment.hints ++ arrival_bytes payment.arrival ++ bounds_bytes payment.bounds
    ++ stage_bytes payment.stage ++ list_bytes part_bytes payment.parts
