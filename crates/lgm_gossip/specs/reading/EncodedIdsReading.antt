-- Reading encoded channel ids.
use Rattle.std.specs.Prelude.{ℕ, ◌/◌, ◌%◌, List, [], ◌∷◌, length, map, not}
use Rattle.std.specs.Prelude.{Result, Ok, Err, ◌==◌, if◌then◌else◌}
use Rattle.std.specs.Int.{w64, from_be_bytes}
use Rattle.std.specs.Simd.{first_chunks}
use Rattle.lgm_gossip.specs.declared.fault.DecodeFault.{DecodeFault}
use Rattle.lgm_gossip.specs.declared.fault.DecodeFault.TheVariants.{Encoding, Ids}
use Rattle.lgm_gossip.specs.reading.FieldReading.{enclosed_at}

abbrev pub ids_of : List ℕ → Result (List ℕ) DecodeFault
ids_of [] = Ok []
ids_of (first ∷ left) =
    if not (first == 0) then Err (Encoding first)
    else if not (length left % 8 == 0) then Err Ids
    else Ok (map (from_be_bytes w64) (first_chunks 8 (length left / 8) left))

-- the same as a field
abbrev pub encoded_ids_at : List ℕ → Result (List ℕ × List ℕ) DecodeFault
encoded_ids_at = enclosed_at ids_of
