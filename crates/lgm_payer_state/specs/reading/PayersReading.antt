-- Reading a payer.
use Rattle.std.specs.Prelude.{ℕ, List, [], ◌∷◌, Result, Ok, Err}
use Rattle.std.specs.Int.{w64}
use Rattle.lgm_payer.specs.Payers.{PayerState}
use Rattle.lgm_payer_state.specs.declared.state_fault.StateFault.{StateFault}
use Rattle.lgm_payer_state.specs.declared.state_fault.StateFault.TheVariants.{Damaged}
use Rattle.lgm_payer_state.specs.reading.Reading.{Reader, number_at, list_at, made}
use Rattle.lgm_payer_state.specs.reading.InOrder.{◌>>=◌}
use Rattle.lgm_payer_state.specs.reading.EdgesReading.{point_at}
use Rattle.lgm_payer_state.specs.reading.PaymentsReading.{payment_at}
use Rattle.lgm_payer_state.specs.reading.EstimatesReading.{learnt_at}

unfoldable pub payer_at : Reader PayerState
payer_at = do
  point ← point_at
  begun ← number_at w64
  sent ← number_at w64
  settled ← number_at w64
  payments ← list_at payment_at
  learnt ← learnt_at
  made (record { point = point; payments = payments; learnt = learnt; begun = begun; sent = sent; settled = settled })

-- a value with nothing behind it
abbrev pub only : {A : Type 0} → A → List ℕ → Result A StateFault
only x [] = Ok x
only x (byte ∷ bytes) = Err Damaged

abbrev pub alone : {A : Type 0} → Result (A × List ℕ) StateFault → Result A StateFault
alone (Err fault) = Err fault
alone (Ok x) = only x.0 x.1

-- the value that is all of the bytes
abbrev pub whole_at : {A : Type 0} → Reader A → List ℕ → Result A StateFault
whole_at read bytes = alone (read bytes)
