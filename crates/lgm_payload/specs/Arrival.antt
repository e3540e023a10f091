-- What the payee gets beside the route.
use Rattle.std.specs.Prelude.{◌≡◌, ◌↔◌, ℕ, ◌<◌, ◌^◌, List, [], ◌∷◌, ◌++◌, length, map, Option, Some, None}
use Rattle.std.specs.Prelude.{nat_lt, nat_le, if◌then◌else◌}
use Rattle.std.specs.List.{flat_map, AllByRecursion}
use Rattle.lgm_wire.specs.BigSize.{bigsize_bytes}
use Rattle.lgm_wire.specs.Tlv.{TlvRecord, RisesFrom, IsTlvStream, record_bytes}
use Rattle.lgm_wire.specs.TruncatedInteger.{truncated_bytes}
use Rattle.lgm_graph.specs.declared.route.Hop.{Hop}
use Rattle.lgm_payload.specs.declared.arrival_fault.ArrivalFault.{ArrivalFault}
use Rattle.lgm_payload.specs.declared.arrival_fault.ArrivalFault.TheVariants.{Reserved, Order}
use Rattle.lgm_payload.specs.declared.custom_record.CustomRecord.{CustomRecord}
use Rattle.lgm_payload.specs.declared.hop_payload.HopPayload.{HopPayload}
use Rattle.lgm_payload.specs.HopPayload.{IsFramed, value_of, payment_bytes, records_of}
use Rattle.std.specs.Option.{option_map}
use Rattle.std.specs.Int.{w64, to_be_bytes}

-- the secret, the total of all parts, the payment metadata, and the custom records
pub record ArrivalParts : Type 0 where
  pub secret : List ℕ
  pub total : ℕ
  pub metadata : Option (List ℕ)
  pub records : List TlvRecord

-- a custom record in a stream
abbrev pub custom_record : CustomRecord → TlvRecord
custom_record r = record { kind = r.kind; value = r.value }

abbrev pub custom_records : List CustomRecord → List TlvRecord
custom_records rs = map custom_record rs

-- what the payee of a payment in one part gets
abbrev pub whole_arrival : List ℕ → Hop → ArrivalParts
whole_arrival secret last = record { secret = secret; total = last.amount; metadata = None; records = [] }

-- the payload of the node at the end of the last hop, without custom records
abbrev pub arrival_for : ArrivalParts → Hop → HopPayload
arrival_for arrival last = record {
  amount = last.amount;
  expiry = last.expiry;
  next = None;
  payment = Some (record { secret = arrival.secret; total = arrival.total });
  metadata = arrival.metadata;
}

-- the records of a payload's fields, and then the custom ones
abbrev pub records_with : HopPayload → List TlvRecord → List TlvRecord
records_with payload custom = records_of payload ++ custom

-- a length, and then the records
abbrev pub framed_bytes : List TlvRecord → List ℕ
framed_bytes records = bigsize_bytes (length (flat_map record_bytes records)) ++ flat_map record_bytes records

-- the encoding of a payload with custom records
abbrev pub payload_with : HopPayload → List TlvRecord → List ℕ
payload_with payload custom = framed_bytes (records_with payload custom)

-- the first fault of types that are to be custom, and each above the one before
abbrev pub types_fault : ℕ → List TlvRecord → Option ArrivalFault
types_fault last [] = None
types_fault last (r ∷ rs) =
    if nat_lt r.kind 65536 then Some Reserved
    else if nat_le r.kind last then Some Order
    else types_fault r.kind rs

-- types have no fault if and only if they are custom and strictly increasing
abbrev pub TypesRise : Type 0
TypesRise = (rs : List TlvRecord) → (types_fault 65535 rs ≡ None) ↔ RisesFrom (Some 65535) rs

-- the secret has its length, and the numbers fit their fields
pub record IsSizedArrival (arrival : ArrivalParts) : Type 0 where
  pub secret : length arrival.secret ≡ 32
  pub total : arrival.total < 2 ^ 64
  pub types : AllByRecursion (λ r. r.kind < 2 ^ 64) arrival.records

-- the bytes are a length and a stream of records, whose values by their types are the payload's fields and those of the
-- custom records
pub record Carries (payload : HopPayload) (custom : List TlvRecord) (bytes : List ℕ) : Type 0 where
  pub text : List ℕ
  pub framed : IsFramed text bytes
  pub records : List TlvRecord
  pub stream : IsTlvStream records text
  pub amount : value_of 2 records ≡ Some (truncated_bytes payload.amount)
  pub expiry : value_of 4 records ≡ Some (truncated_bytes payload.expiry)
  pub next : value_of 6 records ≡ option_map (to_be_bytes w64) payload.next
  pub payment : value_of 8 records ≡ option_map payment_bytes payload.payment
  pub metadata : value_of 16 records ≡ payload.metadata
  pub others : AllByRecursion (λ r. value_of r.kind records ≡ Some r.value) custom
