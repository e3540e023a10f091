-- Reading query flags.
use Rattle.std.specs.Prelude.{ℕ, zero, suc, List, [], ◌∷◌, not, Result, Ok, Err, ◌==◌, if◌then◌else◌}
use Rattle.lgm_wire.specs.reading.Reading.{◌>>=◌}
use Rattle.lgm_wire.specs.declared.fault.WireFault.{WireFault}
use Rattle.lgm_gossip.specs.declared.fault.DecodeFault.{DecodeFault}
use Rattle.lgm_gossip.specs.declared.fault.DecodeFault.TheVariants.{Encoding, Flags}
use Rattle.lgm_gossip.specs.Streams.{bigsize_at}

abbrev pub or_flags : Result (ℕ × List ℕ) WireFault → Result (ℕ × List ℕ) DecodeFault
or_flags (Ok x) = Ok x
or_flags (Err e) = Err Flags

-- one number
abbrev pub flag_at : List ℕ → Result (ℕ × List ℕ) DecodeFault
flag_at bytes = or_flags (bigsize_at bytes)

-- the given number of flags, and nothing after them
unfoldable pub all_flags_at : ℕ → List ℕ → Result (List ℕ) DecodeFault
all_flags_at zero [] = Ok []
all_flags_at zero (b ∷ bs) = Err Flags
all_flags_at (suc n) bytes = do
  first ← flag_at bytes
  others ← all_flags_at n first.1
  Ok (first.0 ∷ others)

abbrev pub query_flags_at : ℕ → List ℕ → Result (List ℕ) DecodeFault
query_flags_at count [] = Err Flags
query_flags_at count (first ∷ left) =
    if not (first == 0) then Err (Encoding first) else all_flags_at count left
