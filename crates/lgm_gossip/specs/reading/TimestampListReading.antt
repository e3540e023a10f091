-- Reading timestamps.
use Rattle.std.specs.Prelude.{ℕ, ◌/◌, ◌%◌, List, [], ◌∷◌, length, map, take, drop}
use Rattle.std.specs.Prelude.{not, Result, Ok, Err, ◌==◌, if◌then◌else◌}
use Rattle.std.specs.Int.{w32, from_be_bytes}
use Rattle.std.specs.Simd.{first_chunks}
use Rattle.lgm_gossip.specs.declared.fault.DecodeFault.{DecodeFault}
use Rattle.lgm_gossip.specs.declared.fault.DecodeFault.TheVariants.{Encoding, TlvKind}
use Rattle.lgm_gossip.specs.declared.timestamps.Timestamps.{Timestamps}

abbrev pub pair_of : List ℕ → Timestamps
pair_of bytes =
    record { node_1 = from_be_bytes w32 (take 4 bytes); node_2 = from_be_bytes w32 (drop 4 bytes) }

abbrev pub timestamps_at : ℕ → List ℕ → Result (List Timestamps) DecodeFault
timestamps_at count [] = Err (TlvKind 1)
timestamps_at count (first ∷ left) =
    if not (first == 0) then Err (Encoding first)
    else if not (length left / 8 == count) then Err (TlvKind 1)
    else if not (length left % 8 == 0) then Err (TlvKind 1)
    else Ok (map pair_of (first_chunks 8 (length left / 8) left))
