-- The bytes of a payer.
use Rattle.std.specs.Prelude.{ℕ, List, ◌++◌}
use Rattle.std.specs.Int.{w64}
use Rattle.lgm_payer.specs.Payers.{PayerState}
use Rattle.lgm_payer_state.specs.Written.{number_bytes, list_bytes}
use Rattle.lgm_payer_state.specs.Edges.{point_bytes}
use Rattle.lgm_payer_state.specs.Payments.{payment_bytes}
use Rattle.lgm_payer_state.specs.Estimates.{learnt_bytes}

unfoldable pub payer_bytes : PayerState → List ℕ
payer_bytes payer =
    point_bytes payer.point ++ number_bytes w64 payer.begun ++ number_bytes w64 payer.sent ++ number_bytes w64 payer.settled
    ++ list_bytes payment_bytes payer.payments ++ learnt_bytes payer.learnt
