-- Reading a payload, with the first fault in the order that `read` promises.
use Rattle.std.specs.Prelude.{◌≡◌, ◌⊎◌, ℕ, ◌%◌, Bool, List, [], ◌∷◌, length, take, drop, Option, Some}
use Rattle.std.specs.Prelude.{None, Result, Ok, Err, nat_lt, ◌==◌, ◌||◌, ◌&&◌, if◌then◌else◌}
use Rattle.std.specs.Int.{w64, from_be_bytes}
use Rattle.std.specs.Option.{option_map, is_some}
use Rattle.std.specs.Result.{result_err}
use Rattle.lgm_wire.specs.reading.Reading.{◌>>=◌}
use Rattle.lgm_wire.specs.reading.BigSizeReading.{bigsize_at}
use Rattle.lgm_wire.specs.TruncatedInteger.{number_of}
use Rattle.lgm_wire.specs.reading.TruncatedIntegerReading.{starts_with_zero}
use Rattle.lgm_wire.specs.Tlv.{TlvRecord}
use Rattle.lgm_wire.specs.reading.TlvReading.{tlvs_of}
use Rattle.lgm_wire.specs.declared.fault.WireFault.{WireFault}
use Rattle.lgm_payload.specs.declared.fault.PayloadFault.{PayloadFault}
use Rattle.lgm_payload.specs.declared.fault.PayloadFault.TheVariants.{Length, Tlv, Blinded, Kind}
use Rattle.lgm_payload.specs.declared.fault.PayloadFault.TheVariants.{Missing, Extra, NoMemory}
use Rattle.lgm_payload.specs.declared.hop_payload.HopPayload.{HopPayload}
use Rattle.lgm_payload.specs.declared.hop_payload.Payment.{Payment}
use Rattle.lgm_payload.specs.declared.reader.FoundValues.{FoundValues}
use Rattle.lgm_payload.specs.HopPayload.{value_of}

-- a value, unless there is a fault
abbrev pub unless : {A : Type 0} → Option PayloadFault → A → Result A PayloadFault
unless None x = Ok x
unless (Some fault) x = Err fault

-- the bytes after the length, if that is their number
abbrev pub behind_len : Result (ℕ × List ℕ) WireFault → Result (List ℕ) PayloadFault
behind_len (Ok x) = if x.0 == length x.1 then Ok x.1 else Err Length
behind_len (Err e) = Err Length

abbrev pub text_at : List ℕ → Result (List ℕ) PayloadFault
text_at bytes = behind_len (bigsize_at bytes)

abbrev pub or_tlv : Result (List TlvRecord) WireFault → Result (List TlvRecord) PayloadFault
or_tlv (Ok records) = Ok records
or_tlv (Err fault) = Err (Tlv fault)

-- the records, or the first fault of the stream
abbrev pub stream_at : List ℕ → Result (List TlvRecord) PayloadFault
stream_at text = or_tlv (tlvs_of text)

-- a number with too many bytes, or a leading zero
abbrev pub number_fault : ℕ → ℕ → List ℕ → Option PayloadFault
number_fault kind most value =
    if nat_lt most (length value) then Some (Kind kind)
    else if starts_with_zero value then Some (Kind kind)
    else None

abbrev pub number_at : ℕ → ℕ → List ℕ → Result ℕ PayloadFault
number_at kind most value = unless (number_fault kind most value) (number_of value)

-- an id that doesn't have eight bytes
abbrev pub scid_fault : List ℕ → Option PayloadFault
scid_fault value = if length value == 8 then None else Some (Kind 6)

abbrev pub scid_at : List ℕ → Result ℕ PayloadFault
scid_at value = unless (scid_fault value) (from_be_bytes w64 value)

-- a payment without a complete secret, or with a faulty total
abbrev pub payment_fault : List ℕ → Option PayloadFault
payment_fault value = if nat_lt (length value) 32 then Some (Kind 8) else number_fault 8 8 (drop 32 value)

abbrev pub payment_of : List ℕ → Payment
payment_of value = record { secret = take 32 value; total = number_of (drop 32 value) }

abbrev pub payment_at : List ℕ → Result Payment PayloadFault
payment_at value = unless (payment_fault value) (payment_of value)

abbrev pub is_blinded : ℕ → Bool
is_blinded kind = (kind == 10) || ((kind == 12) || (kind == 18))

-- the fault of an unknown type
abbrev pub unknown_fault : ℕ → Option PayloadFault
unknown_fault kind =
    if is_blinded kind then Some Blinded
    else if kind % 2 == 0 then Some (Kind kind)
    else None

-- the fault of a record
abbrev pub record_fault : TlvRecord → Option PayloadFault
record_fault r =
    if r.kind == 2 then number_fault 2 8 r.value
    else if r.kind == 4 then number_fault 4 4 r.value
    else if r.kind == 6 then scid_fault r.value
    else if r.kind == 8 then payment_fault r.value
    else if r.kind == 16 then None
    else unknown_fault r.kind

-- a fault, or the first later one
abbrev pub or_later : Option PayloadFault → Option PayloadFault → Option PayloadFault
or_later None later = later
or_later (Some fault) later = Some fault

-- the first faulty record decides
abbrev pub first_fault : List TlvRecord → Option PayloadFault
first_fault [] = None
first_fault (r ∷ rs) = or_later (record_fault r) (first_fault rs)

-- the values with one more record
abbrev pub with_record : FoundValues → TlvRecord → FoundValues
with_record known r = record {
  amount = if r.kind == 2 then Some (number_of r.value) else known.amount;
  expiry = if r.kind == 4 then Some (number_of r.value) else known.expiry;
  next = if r.kind == 6 then Some (from_be_bytes w64 r.value) else known.next;
  payment = if r.kind == 8 then Some (payment_of r.value) else known.payment;
  metadata = if r.kind == 16 then Some r.value else known.metadata;
}

-- one more record was added, or has a fault, or memory ran out
abbrev pub IsAdded : FoundValues → TlvRecord → Result (Unit {0}) PayloadFault → FoundValues → Type 0
IsAdded known r (Ok _) after = (record_fault r ≡ None) × (after ≡ with_record known r)
IsAdded known r (Err fault) after = (fault ≡ NoMemory) ⊎ (record_fault r ≡ Some fault)

-- the values in all records
abbrev pub known_in : List TlvRecord → FoundValues
known_in records = record {
  amount = option_map number_of (value_of 2 records);
  expiry = option_map number_of (value_of 4 records);
  next = option_map (from_be_bytes w64) (value_of 6 records);
  payment = option_map payment_of (value_of 8 records);
  metadata = value_of 16 records;
}

abbrev pub known_at : List TlvRecord → Result FoundValues PayloadFault
known_at records = unless (first_fault records) (known_in records)

-- there are an amount and an expiry, and not both a next channel and a payment
abbrev pub whole_of : Option ℕ → Option ℕ → Option ℕ → Option Payment → Option (List ℕ)
    → Result HopPayload PayloadFault
whole_of (Some amount) (Some expiry) next payment metadata =
    if is_some next && is_some payment then Err Extra
    else Ok (record { amount = amount; expiry = expiry; next = next; payment = payment; metadata = metadata })
whole_of None expiry next payment metadata = Err Missing
whole_of (Some amount) None next payment metadata = Err Missing

abbrev pub whole : FoundValues → Result HopPayload PayloadFault
whole known = whole_of known.amount known.expiry known.next known.payment known.metadata

unfoldable pub payload_at : List ℕ → Result HopPayload PayloadFault
payload_at bytes = do
  text ← text_at bytes
  records ← stream_at text
  known ← known_at records
  whole known

-- the first fault, or none
abbrev pub fault : List ℕ → Option PayloadFault
fault bytes = result_err (payload_at bytes)
