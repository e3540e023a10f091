-- Reading what a payee gets beside a route.
use Rattle.std.specs.Prelude.{ℕ, Bool, List, Option, Some, None, if◌then◌else◌}
use Rattle.std.specs.Int.{w64}
use Rattle.lgm_payload.specs.declared.custom_record.CustomRecord.{CustomRecord}
use Rattle.lgm_payload.specs.Arrival.{ArrivalParts, custom_records}
use Rattle.lgm_payer_state.specs.reading.Reading.{Reader, fixed_at, number_at, flag_at, counted_at, list_at, made}
use Rattle.lgm_payer_state.specs.reading.InOrder.{◌>>=◌}

unfoldable pub record_at : Reader CustomRecord
record_at = do
  kind ← number_at w64
  value ← counted_at
  made (record { kind = kind; value = value })

abbrev pub some_metadata_at : Reader (Option (List ℕ))
some_metadata_at = do
  metadata ← counted_at
  made (Some metadata)

abbrev pub metadata_of : Bool → Reader (Option (List ℕ))
metadata_of some = if some then some_metadata_at else made None

unfoldable pub metadata_at : Reader (Option (List ℕ))
metadata_at = do
  some ← flag_at
  metadata_of some

unfoldable pub arrival_at : Reader ArrivalParts
arrival_at = do
  secret ← fixed_at 32
  total ← number_at w64
  metadata ← metadata_at
  records ← list_at record_at
  made (record { secret = secret; total = total; metadata = metadata; records = custom_records records })
