-- How a TLV stream is read (exact, for readers built on it): record by record, up to the first
-- fault.
use Rattle.std.specs.Prelude.{◌≡◌, ℕ, zero, suc, ◌<◌, ◌++◌, Option, Some, None, nat_le, nat_lt, false}
use Rattle.std.specs.Prelude.{Bool, List, [], ◌∷◌, length, take, drop, Result, Ok, Err, if◌then◌else◌}
use Rattle.std.specs.List.{flat_map, AllByRecursion}
use Rattle.lgm_wire.specs.declared.fault.WireFault.{WireFault}
use Rattle.lgm_wire.specs.declared.fault.WireFault.TheVariants.{Cut, Order}
use Rattle.lgm_wire.specs.reading.Reading.{◌>>=◌}
use Rattle.lgm_wire.specs.reading.BigSizeReading.{bigsize_at}
use Rattle.lgm_wire.specs.Tlv.{TlvRecord, Fits, RisesFrom, record_bytes}

abbrev pub is_not_above : Option ℕ → ℕ → Bool
is_not_above None kind = false
is_not_above (Some last) kind = nat_le kind last

-- a record and the bytes after it, or its first fault: its type, its order, its length, its value
unfoldable pub record_at : Option ℕ → List ℕ → Result (TlvRecord × List ℕ) WireFault
record_at last bytes = do
  kind ← bigsize_at bytes
  if is_not_above last kind.0 then Err Order else (do
    len ← bigsize_at kind.1
    if nat_lt (length len.1) len.0 then Err Cut
        else Ok (record { kind = kind.0; value = take len.0 len.1 }, drop len.0 len.1))

-- the type of the last record, or else the one before
abbrev pub last_kind : Option ℕ → List TlvRecord → Option ℕ
last_kind last [] = last
last_kind last (r ∷ rs) = last_kind (Some r.kind) rs

-- the bytes begin with complete records, and the record after them has this fault
pub record IsFirstFault (bytes : List ℕ) (fault : WireFault) : Type 0 where
  pub before : List TlvRecord
  pub rest : List ℕ
  pub fits : AllByRecursion Fits before
  pub rises : RisesFrom None before
  pub parts : bytes ≡ flat_map record_bytes before ++ rest
  pub more : 0 < length rest
  pub is : record_at (last_kind None before) rest ≡ Err fault

-- the records of a stream, at most the given number, after a record of the last type
unfoldable pub tlvs_at : ℕ → Option ℕ → List ℕ → Result (List TlvRecord) WireFault
tlvs_at n last [] = Ok []
tlvs_at zero last (b ∷ bs) = Ok []
tlvs_at (suc n) last (b ∷ bs) = do
  first ← record_at last (b ∷ bs)
  others ← tlvs_at n (Some first.0.kind) first.1
  Ok (first.0 ∷ others)

-- the records of a stream, or its first fault; a stream has no more records than bytes
unfoldable pub tlvs_of : List ℕ → Result (List TlvRecord) WireFault
tlvs_of bytes = tlvs_at (length bytes) None bytes
