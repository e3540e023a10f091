-- The bytes of what a payee gets beside a route.
use Rattle.std.specs.Prelude.{ℕ, true, false, List, ◌++◌, Option, Some, None}
use Rattle.std.specs.Int.{w64}
use Rattle.lgm_wire.specs.Tlv.{TlvRecord}
use Rattle.lgm_payload.specs.Arrival.{ArrivalParts}
use Rattle.lgm_payer_state.specs.Written.{number_bytes, flag_bytes, counted_bytes, list_bytes}

-- a custom record
unfoldable pub record_bytes : TlvRecord → List ℕ
record_bytes it = number_bytes w64 it.kind ++ counted_bytes it.value

-- the payment metadata, if there are any
unfoldable pub metadata_bytes : Option (List ℕ) → List ℕ
metadata_bytes None = flag_bytes false
metadata_bytes (Some metadata) = flag_bytes true ++ counted_bytes metadata

unfoldable pub arrival_bytes : ArrivalParts → List ℕ
arrival_bytes arrival =
    arrival.secret ++ number_bytes w64 arrival.total ++ metadata_bytes arrival.metadata ++ list_bytes record_bytes arrival.records
