-- Reading the TLV stream after the last field: the first faulty record decides.
use Rattle.std.specs.Prelude.{ℕ, ◌%◌, List, [], ◌∷◌, Option, Some, None, Result, Ok, Err, ◌==◌, if◌then◌else◌}
use Rattle.lgm_wire.specs.reading.Reading.{◌>>=◌}
use Rattle.lgm_wire.specs.declared.fault.WireFault.{WireFault}
use Rattle.lgm_gossip.specs.declared.fault.DecodeFault.{DecodeFault}
use Rattle.lgm_gossip.specs.declared.fault.DecodeFault.TheVariants.{Tlv, TlvKind}
use Rattle.lgm_gossip.specs.Streams.{TlvRecord, tlvs_of}

abbrev pub or_tlv : Result (List TlvRecord) WireFault → Result (List TlvRecord) DecodeFault
or_tlv (Ok records) = Ok records
or_tlv (Err fault) = Err (Tlv fault)

-- the records, or the first fault of the stream
abbrev pub stream_at : List ℕ → Result (List TlvRecord) DecodeFault
stream_at bytes = or_tlv (tlvs_of bytes)

-- the value after one more record: type 1 is read, another even type is a fault, another odd one is skipped
abbrev pub after_record : {A : Type 0} → (List ℕ → Result A DecodeFault) → Option A → TlvRecord
    → Result (Option A) DecodeFault
after_record read known r =
    if r.kind == 1 then (read r.value >>= λ x. Ok (Some x))
    else if r.kind % 2 == 0 then Err (TlvKind r.kind)
    else Ok known

unfoldable pub after_records : {A : Type 0} → (List ℕ → Result A DecodeFault) → Option A → List TlvRecord
    → Result (Option A) DecodeFault
after_records read known [] = Ok known
after_records read known (r ∷ rs) = after_record read known r >>= λ more. after_records read more rs

unfoldable pub optional_of : {A : Type 0} → (List ℕ → Result A DecodeFault) → List ℕ
    → Result (Option A) DecodeFault
optional_of read bytes = stream_at bytes >>= λ records. after_records read None records

-- the same as a field
abbrev pub optional_at : {A : Type 0} → (List ℕ → Result A DecodeFault) → List ℕ
    → Result (Option A × List ℕ) DecodeFault
optional_at read bytes = optional_of read bytes >>= λ x. Ok (x, [])
