-- Which bytes encode which payload. This is what `read` promises; the module Reading defines in which order they are
-- parsed.
use Rattle.std.specs.Prelude.{◌≡◌, ◌⊎◌, ℕ, ◌<◌, ◌^◌, ◌%◌, List, [], ◌∷◌, ◌++◌}
use Rattle.std.specs.Prelude.{length, Option, Some, None, ◌==◌, if◌then◌else◌}
use Rattle.std.specs.Int.{w64, to_be_bytes}
use Rattle.std.specs.List.{flat_map, AllByRecursion}
use Rattle.std.specs.Option.{option_map, ForSome}
use Rattle.lgm_wire.specs.BigSize.{bigsize_bytes}
use Rattle.lgm_wire.specs.TruncatedInteger.{truncated_bytes}
use Rattle.lgm_wire.specs.Tlv.{TlvRecord, IsTlvStream, record_bytes}
use Rattle.lgm_payload.specs.declared.hop_payload.HopPayload.{HopPayload}
use Rattle.lgm_payload.specs.declared.hop_payload.Payment.{Payment}

-- the value of a record of this type, unless a later one is of this type
abbrev pub value_before : ℕ → TlvRecord → Option (List ℕ) → Option (List ℕ)
value_before kind r (Some value) = Some value
value_before kind r None = if r.kind == kind then Some r.value else None

-- the value of the record of this type, of which a stream has at most one
abbrev pub value_of : ℕ → List TlvRecord → Option (List ℕ)
value_of kind [] = None
value_of kind (r ∷ rs) = value_before kind r (value_of kind rs)

-- the secret, and then the total
abbrev pub payment_bytes : Payment → List ℕ
payment_bytes payment = payment.secret ++ truncated_bytes payment.total

-- the types that are known: amount, expiry, next channel, payment data and metadata
abbrev pub IsKnown : ℕ → Type 0
IsKnown kind = (kind ≡ 2) ⊎ (kind ≡ 4) ⊎ (kind ≡ 6) ⊎ (kind ≡ 8) ⊎ (kind ≡ 16)

-- the numbers fit their fields, and the secret has its length
pub record Fits (payload : HopPayload) : Type 0 where
  pub amount : payload.amount < 2 ^ 64
  pub expiry : payload.expiry < 2 ^ 32
  pub next : ForSome payload.next (λ scid. scid < 2 ^ 64)
  pub secret : ForSome payload.payment (λ payment. length payment.secret ≡ 32)
  pub total : ForSome payload.payment (λ payment. payment.total < 2 ^ 64)

-- it isn't both to be forwarded and for the payee
abbrev pub IsOneWay : HopPayload → Type 0
IsOneWay payload = (payload.next ≡ None) ⊎ (payload.payment ≡ None)

-- the length of a text, and then the text
pub record IsFramed (text bytes : List ℕ) : Type 0 where
  pub whole : bytes ≡ bigsize_bytes (length text) ++ text
  pub len : length text < 2 ^ 64

-- the bytes are a length and a stream of records of known or odd types, and the values of the known records are the
-- payload's fields
pub record IsPayload (payload : HopPayload) (bytes : List ℕ) : Type 0 where
  pub text : List ℕ
  pub framed : IsFramed text bytes
  pub records : List TlvRecord
  pub stream : IsTlvStream records text
  pub kinds : AllByRecursion (λ r. IsKnown r.kind ⊎ (r.kind % 2 ≡ 1)) records
  pub amount : value_of 2 records ≡ Some (truncated_bytes payload.amount)
  pub expiry : value_of 4 records ≡ Some (truncated_bytes payload.expiry)
  pub next : value_of 6 records ≡ option_map (to_be_bytes w64) payload.next
  pub payment : value_of 8 records ≡ option_map payment_bytes payload.payment
  pub metadata : value_of 16 records ≡ payload.metadata
  pub fits : Fits payload
  pub one_way : IsOneWay payload

-- a record, if there is a value for it
abbrev pub optional : ℕ → Option (List ℕ) → List TlvRecord
optional kind None = []
optional kind (Some value) = record { kind = kind; value = value } ∷ []

abbrev pub optional_bytes : ℕ → Option (List ℕ) → List ℕ
optional_bytes kind value = flat_map record_bytes (optional kind value)

-- the records of a payload's fields, by their types
abbrev pub records_of : HopPayload → List TlvRecord
records_of payload =
    record { kind = 2; value = truncated_bytes payload.amount }
    ∷ record { kind = 4; value = truncated_bytes payload.expiry }
    ∷ (optional 6 (option_map (to_be_bytes w64) payload.next)
    ++ (optional 8 (option_map payment_bytes payload.payment)
    ++ optional 16 payload.metadata))

abbrev pub text_of : HopPayload → List ℕ
text_of payload = flat_map record_bytes (records_of payload)

-- the encoding of a payload without other records
abbrev pub payload_bytes : HopPayload → List ℕ
payload_bytes payload = bigsize_bytes (length (text_of payload)) ++ text_of payload
