-- The payloads of a route.
use Rattle.std.specs.Prelude.{◌≡◌, ℕ, ◌+◌, ◌<◌, ◌≤◌, ◌%◌, ◌^◌, List, [], ◌∷◌, length, map, Option, Some, None}
use Rattle.std.specs.Prelude.{Result, Ok, Err, nat_lt, if◌then◌else◌}
use Rattle.std.specs.List.{AllByRecursion, AllZip}
use Rattle.lgm_graph.specs.declared.route.Hop.{Hop}
use Rattle.lgm_payload.specs.declared.arrival_fault.ArrivalFault.{ArrivalFault}
use Rattle.lgm_payload.specs.declared.arrival_fault.ArrivalFault.TheVariants.{TooLong}
use Rattle.lgm_payload.specs.declared.hop_payload.HopPayload.{HopPayload}
use Rattle.lgm_payload.specs.HopPayload.{payload_bytes, IsPayload}
use Rattle.lgm_payload.specs.Arrival.{ArrivalParts, arrival_for, payload_with, types_fault, IsSizedArrival, Carries}

-- the payload of the node before a hop
abbrev pub forward : Hop → HopPayload
forward next =
    record {
      amount = next.amount;
      expiry = next.expiry;
      next = Some next.scid;
      payment = None;
      metadata = None;
    }

-- the payload of the node at the end of the last hop
abbrev pub arrival : List ℕ → Hop → HopPayload
arrival secret last = record {
  amount = last.amount;
  expiry = last.expiry;
  next = None;
  payment = Some (record { secret = secret; total = last.amount });
  metadata = None;
}

-- hop by hop the payload of the node at its end
abbrev pub told : List ℕ → List Hop → List HopPayload
told secret [] = []
told secret (hop ∷ []) = arrival secret hop ∷ []
told secret (hop ∷ next ∷ hops) = forward next ∷ told secret (next ∷ hops)

-- their encodings
abbrev pub payloads_of : List ℕ → List Hop → List (List ℕ)
payloads_of secret hops = map payload_bytes (told secret hops)

-- the length of payloads in an onion packet: each its bytes, and an HMAC of 32
abbrev pub onion_len : List (List ℕ) → ℕ
onion_len [] = 0
onion_len (payload ∷ payloads) = length payload + 32 + onion_len payloads

-- the numbers of a hop fit their fields
pub record IsSized (hop : Hop) : Type 0 where
  pub scid : hop.scid < 2 ^ 64
  pub amount : hop.amount < 2 ^ 64
  pub expiry : hop.expiry < 2 ^ 32

-- each payload of a route encodes what it was built from
abbrev pub BuiltIsSpelled : Type 0
BuiltIsSpelled =
    (secret : List ℕ) (hops : List Hop) → length secret ≡ 32 → AllByRecursion IsSized hops
    → AllZip IsPayload (told secret hops) (payloads_of secret hops)

-- the same for what the payee gets beside the route: hop by hop the payload without custom records
abbrev pub told_for : ArrivalParts → List Hop → List HopPayload
told_for arrival [] = []
told_for arrival (hop ∷ []) = arrival_for arrival hop ∷ []
told_for arrival (hop ∷ next ∷ hops) = forward next ∷ told_for arrival (next ∷ hops)

-- and their encodings, the last one with the custom records
abbrev pub payloads_for : ArrivalParts → List Hop → List (List ℕ)
payloads_for arrival [] = []
payloads_for arrival (hop ∷ []) = payload_with (arrival_for arrival hop) arrival.records ∷ []
payloads_for arrival (hop ∷ next ∷ hops) = payload_bytes (forward next) ∷ payloads_for arrival (next ∷ hops)

-- payloads, if they fit an onion packet
abbrev pub fitting : List (List ℕ) → Result (List (List ℕ)) ArrivalFault
fitting payloads = if nat_lt 1300 (onion_len payloads) then Err TooLong else Ok payloads

abbrev pub unless_fault : Option ArrivalFault → List (List ℕ) → Result (List (List ℕ)) ArrivalFault
unless_fault None payloads = fitting payloads
unless_fault (Some fault) payloads = Err fault

-- the payloads of a route for an arrival, or the first fault
abbrev pub built_for : ArrivalParts → List Hop → Result (List (List ℕ)) ArrivalFault
built_for arrival hops = unless_fault (types_fault 65535 arrival.records) (payloads_for arrival hops)

-- the payload of the payee, in a route whose payloads fit, has the fields and the custom records of the arrival
abbrev pub BuiltForIsCarried : Type 0
BuiltForIsCarried =
    (arrival : ArrivalParts) (last : Hop) → let payload = payload_with (arrival_for arrival last) arrival.records in
    IsSizedArrival arrival → types_fault 65535 arrival.records ≡ None → length payload ≤ 1300
    → Carries (arrival_for arrival last) arrival.records payload

-- each payload encodes what it was built from, where custom types are odd
abbrev pub BuiltForIsSpelled : Type 0
BuiltForIsSpelled =
    (arrival : ArrivalParts) (hops : List Hop) (payloads : List (List ℕ)) → IsSizedArrival arrival → AllByRecursion IsSized hops
    → AllByRecursion (λ r. r.kind % 2 ≡ 1) arrival.records
    → built_for arrival hops ≡ Ok payloads → AllZip IsPayload (told_for arrival hops) payloads
