-- Payloads with custom records: their types, and what a payee finds.
use Rattle.std.proofs.Common.{◌≡◌, ◌⊎◌, ℕ, ◌%◌, ◌^◌, ◌<◌, ◌≤◌, false, ltb, leb, List, [], ◌∷◌, ◌++◌, length}
use Rattle.std.proofs.Common.{Option, Some, None, Ok, Err, refl, ap, subst, arith, inl, inr}
use Rattle.std.specs.List.{flat_map, AllByRecursion, AllZip}
use Rattle.std.specs.Option.{option_map}
use Rattle.std.specs.Int.{w64, to_be_bytes}
use Rattle.std.proofs.lemmas.Bool.Decides.{nat_tests}
use Rattle.std.proofs.lemmas.List.{length-append}
use Rattle.std.proofs.lemmas.List.Concat.{flat_map-cons}
use Rattle.lgm_wire.specs.BigSize.{bigsize_bytes}
use Rattle.lgm_wire.specs.TruncatedInteger.{truncated_bytes}
use Rattle.lgm_wire.specs.Tlv.{TlvRecord, Fits, RisesFrom, IsTlvStream, record_bytes}
use Rattle.lgm_graph.specs.declared.route.Hop.{Hop}
use Rattle.lgm_payload.specs.declared.arrival_fault.ArrivalFault.{ArrivalFault}
use Rattle.lgm_payload.specs.declared.arrival_fault.ArrivalFault.TheVariants.{TooLong}
use Rattle.lgm_payload.specs.declared.hop_payload.HopPayload.{HopPayload}
use Rattle.lgm_payload.specs.declared.hop_payload.Payment.{Payment}
use Rattle.lgm_payload.specs.HopPayload.{IsPayload, IsKnown, value_of, value_before, payment_bytes}
use Rattle.lgm_payload.specs.Arrival.{ArrivalParts, arrival_for, records_with, payload_with, types_fault}
use Rattle.lgm_payload.specs.Arrival.{TypesRise, IsSizedArrival, Carries}
use Rattle.lgm_payload.specs.Building.{onion_len, IsSized, told_for, payloads_for, unless_fault, BuiltForIsCarried, BuiltForIsSpelled}
use Rattle.lgm_gossip.proofs.WireLaws.{chosen, ok_is}
use Rattle.lgm_payload.proofs.OnionLaws.{forward_spelled}
use Rattle.lgm_payload.proofs.Records.{absent, each_value}

-- ---- the types

rise_of : (last : ℕ) (rs : List TlvRecord) → types_fault last rs ≡ None → RisesFrom (Some last) rs
rise_of last [] none = tt
rise_of last (r ∷ rs) none =
    let above : last < r.kind = grind (arith, nat_tests) in
    let later : types_fault r.kind rs ≡ None = grind (arith, nat_tests) in
    (above, rise_of r.kind rs later)

no_fault : (last : ℕ) (rs : List TlvRecord) → 65535 ≤ last → RisesFrom (Some last) rs → types_fault last rs ≡ None
no_fault last [] above rise = refl
no_fault last (r ∷ rs) above rise =
    let lt : last < r.kind = rise.0 in
    let later : types_fault r.kind rs ≡ None = no_fault r.kind rs (omega arith) rise.1 in
    let custom : ltb r.kind 65536 ≡ false = grind (arith, nat_tests) in
    let order : leb r.kind last ≡ false = grind (arith, nat_tests) in
    rw (custom, order) later

pub types_rise : TypesRise
types_rise = λ rs. (rise_of 65535 rs, no_fault 65535 rs (omega arith))

-- behind a lesser type, too
rise_lower : (low last : ℕ) (rs : List TlvRecord) → low ≤ last → RisesFrom (Some last) rs → RisesFrom (Some low) rs
rise_lower low last [] le rise = tt
rise_lower low last (r ∷ rs) le rise = (let lt : last < r.kind = rise.0 in omega arith, rise.1)

-- ---- lengths

record_at_least : (r : TlvRecord) → length r.value ≤ length (record_bytes r)
record_at_least r =
    omega (arith, length-append (bigsize_bytes r.kind ++ bigsize_bytes (length r.value)) r.value)

-- the records of a short text fit
each_fits : (rs : List TlvRecord) (n : ℕ) → n < 2 ^ 64 → length (flat_map record_bytes rs) ≤ n → AllByRecursion (λ r. r.kind < 2 ^ 64) rs
    → AllByRecursion Fits rs
each_fits [] n lt short kinds = tt
each_fits (r ∷ rs) n lt short kinds =
    let parts = ap length (flat_map-cons record_bytes r rs) in
    let both = length-append (record_bytes r) (flat_map record_bytes rs) in
    let least = record_at_least r in
    (record { kind = kinds.0; len = omega arith }, each_fits rs n lt (omega arith) kinds.1)

-- ---- what a payee finds

-- the records of a payload and of custom ones, in the order of a stream, with the values that the payload has
record AreFound (payload : HopPayload) (custom : List TlvRecord) : Type 0 where
  rises : RisesFrom None (records_with payload custom)
  kinds : AllByRecursion (λ r. r.kind < 2 ^ 64) (records_with payload custom)
  amount : value_of 2 (records_with payload custom) ≡ Some (truncated_bytes payload.amount)
  expiry : value_of 4 (records_with payload custom) ≡ Some (truncated_bytes payload.expiry)
  next : value_of 6 (records_with payload custom) ≡ option_map (to_be_bytes w64) payload.next
  payment : value_of 8 (records_with payload custom) ≡ option_map payment_bytes payload.payment
  metadata : value_of 16 (records_with payload custom) ≡ payload.metadata
  others : AllByRecursion (λ r. value_of r.kind (records_with payload custom) ≡ Some r.value) custom

abbrev payee : ℕ → ℕ → Payment → Option (List ℕ) → HopPayload
payee amount expiry payment metadata = record { amount = amount; expiry = expiry; next = None; payment = Some payment; metadata = metadata }

abbrev amount_record : ℕ → TlvRecord
amount_record amount = record { kind = 2; value = truncated_bytes amount }

abbrev expiry_record : ℕ → TlvRecord
expiry_record expiry = record { kind = 4; value = truncated_bytes expiry }

abbrev payment_record : Payment → TlvRecord
payment_record payment = record { kind = 8; value = payment_bytes payment }

-- nothing of a type between two that follow one another
no_next : (amount expiry : ℕ) (payment : Payment) (rs : List TlvRecord) → RisesFrom (Some 8) rs
    → value_of 6 (amount_record amount ∷ expiry_record expiry ∷ payment_record payment ∷ rs) ≡ None
no_next amount expiry payment rs rise =
    ap (λ (o : Option (List ℕ)). value_before 6 (amount_record amount) (value_before 6 (expiry_record expiry) o))
    (absent 6 6 (payment_record payment ∷ rs) (omega arith, rise) (omega arith))

no_metadata : (amount expiry : ℕ) (payment : Payment) (rs : List TlvRecord) → RisesFrom (Some 16) rs
    → value_of 16 (amount_record amount ∷ expiry_record expiry ∷ payment_record payment ∷ rs) ≡ None
no_metadata amount expiry payment rs rise =
    ap (λ (o : Option (List ℕ)). value_before 16 (amount_record amount) (value_before 16 (expiry_record expiry) (value_before 16 (payment_record payment) o)))
    (absent 16 16 rs rise (omega arith))

found : (amount expiry : ℕ) (payment : Payment) (metadata : Option (List ℕ)) (custom : List TlvRecord)
    → RisesFrom (Some 65535) custom → AllByRecursion (λ r. r.kind < 2 ^ 64) custom
    → AreFound (payee amount expiry payment metadata) custom
found amount expiry payment None custom rise kinds =
    let behind = rise_lower 8 65535 custom (omega arith) rise in
    let rises : RisesFrom None (records_with (payee amount expiry payment None) custom) = (tt, (omega arith, (omega arith, behind))) in
    let each = each_value None (records_with (payee amount expiry payment None) custom) rises in
    record {
      rises = rises;
      kinds = (omega arith, (omega arith, (omega arith, kinds)));
      amount = each.0;
      expiry = each.1.0;
      next = no_next amount expiry payment custom behind;
      payment = each.1.1.0;
      metadata =
          no_metadata amount expiry payment custom
          (rise_lower 16 65535 custom (omega arith) rise);
      others = each.1.1.1;
    }
found amount expiry payment (Some bytes) custom rise kinds =
    let behind = rise_lower 16 65535 custom (omega arith) rise in
    let rises : RisesFrom None (records_with (payee amount expiry payment (Some bytes)) custom) =
    (tt, (omega arith, (omega arith, (omega arith, behind)))) in
    let each = each_value None (records_with (payee amount expiry payment (Some bytes)) custom) rises in
    record {
      rises = rises;
      kinds = (omega arith, (omega arith, (omega arith, (omega arith, kinds))));
      amount = each.0;
      expiry = each.1.0;
      next = no_next amount expiry payment (record { kind = 16; value = bytes } ∷ custom) (omega arith, behind);
      payment = each.1.1.0;
      metadata = each.1.1.1.0;
      others = each.1.1.1.1;
    }

-- a payload that fits an onion has a short text
text_short : (payload : HopPayload) (custom : List TlvRecord) → length (payload_with payload custom) ≤ 1300
    → length (flat_map record_bytes (records_with payload custom)) ≤ 1300
text_short payload custom short =
    let text = flat_map record_bytes (records_with payload custom) in
    omega (arith, length-append (bigsize_bytes (length text)) text)

values_of : (arrival : ArrivalParts) (last : Hop) → IsSizedArrival arrival → types_fault 65535 arrival.records ≡ None
    → AreFound (arrival_for arrival last) arrival.records
values_of arrival last sized none =
    let custom = arrival.records in
    let payment : Payment = record { secret = arrival.secret; total = arrival.total } in
    found last.amount last.expiry payment arrival.metadata custom (rise_of 65535 custom none) sized.types

stream_of : (payload : HopPayload) (custom : List TlvRecord) → AreFound payload custom → length (payload_with payload custom) ≤ 1300
    → IsTlvStream (records_with payload custom) (flat_map record_bytes (records_with payload custom))
stream_of payload custom is short = record {
  fits = each_fits (records_with payload custom) 1300 (omega arith) (text_short payload custom short) is.kinds;
  rises = is.rises;
  whole = refl;
}

carried_by : (payload : HopPayload) (custom : List TlvRecord) → AreFound payload custom → length (payload_with payload custom) ≤ 1300
    → Carries payload custom (payload_with payload custom)
carried_by payload custom is short =
    let text = flat_map record_bytes (records_with payload custom) in
    let few = text_short payload custom short in
    record {
      text = text;
      framed = record { whole = refl; len = omega arith };
      records = records_with payload custom;
      stream = stream_of payload custom is short;
      amount = is.amount;
      expiry = is.expiry;
      next = is.next;
      payment = is.payment;
      metadata = is.metadata;
      others = is.others;
    }

pub carried : BuiltForIsCarried
carried = λ arrival last sized none short.
    carried_by (arrival_for arrival last) arrival.records (values_of arrival last sized none) short

-- ---- where the custom types are odd

known_or_odd : (rs : List TlvRecord) → AllByRecursion (λ r. r.kind % 2 ≡ 1) rs → AllByRecursion (λ r. IsKnown r.kind ⊎ (r.kind % 2 ≡ 1)) rs
known_or_odd [] odd = tt
known_or_odd (r ∷ rs) odd = (inr odd.0, known_or_odd rs odd.1)

kinds_known : (amount expiry : ℕ) (payment : Payment) (metadata : Option (List ℕ)) (custom : List TlvRecord)
    → AllByRecursion (λ r. r.kind % 2 ≡ 1) custom
    → AllByRecursion (λ r. IsKnown r.kind ⊎ (r.kind % 2 ≡ 1)) (records_with (payee amount expiry payment metadata) custom)
kinds_known amount expiry payment None custom odd =
    (inl (inl refl), (inl (inr (inl refl)), (inl (inr (inr (inr (inl refl)))), known_or_odd custom odd)))
kinds_known amount expiry payment (Some bytes) custom odd = (
  inl (inl refl),
  (
    inl (inr (inl refl)),
    (inl (inr (inr (inr (inl refl)))), (inl (inr (inr (inr (inr refl)))), known_or_odd custom odd)),
  ),
)

arrival_spelled : (arrival : ArrivalParts) (last : Hop) → IsSizedArrival arrival → IsSized last → types_fault 65535 arrival.records ≡ None
    → AllByRecursion (λ r. r.kind % 2 ≡ 1) arrival.records
    → length (payload_with (arrival_for arrival last) arrival.records) ≤ 1300
    → IsPayload (arrival_for arrival last) (payload_with (arrival_for arrival last) arrival.records)
arrival_spelled arrival last sized hop none odd short =
    let is = values_of arrival last sized none in
    let paid : Payment = record { secret = arrival.secret; total = arrival.total } in
    record {
      text = flat_map record_bytes (records_with (arrival_for arrival last) arrival.records);
      framed = record { whole = refl; len = let few = text_short (arrival_for arrival last) arrival.records short in omega arith };
      records = records_with (arrival_for arrival last) arrival.records;
      stream = stream_of (arrival_for arrival last) arrival.records is short;
      kinds = kinds_known last.amount last.expiry paid arrival.metadata arrival.records odd;
      amount = is.amount;
      expiry = is.expiry;
      next = is.next;
      payment = is.payment;
      metadata = is.metadata;
      fits = record {
        amount = hop.amount;
        expiry = hop.expiry;
        next = λ scid e. absurd cc;
        secret = λ payment e. let same : paid ≡ payment = cc in omega (arith, sized.secret, ap (λ p. length p.secret) same);
        total = λ payment e. let same : paid ≡ payment = cc in let lt = sized.total in omega (arith, ap (λ p. p.total) same);
      };
      one_way = inl refl;
    }

payloads_spelled : (arrival : ArrivalParts) (hops : List Hop) → IsSizedArrival arrival → AllByRecursion IsSized hops
    → AllByRecursion (λ r. r.kind % 2 ≡ 1) arrival.records → types_fault 65535 arrival.records ≡ None
    → onion_len (payloads_for arrival hops) ≤ 1300 → AllZip IsPayload (told_for arrival hops) (payloads_for arrival hops)
payloads_spelled arrival [] sized each odd none fit = tt
payloads_spelled arrival (hop ∷ []) sized each odd none fit =
    (arrival_spelled arrival hop sized each.0 none odd (omega arith), tt)
payloads_spelled arrival (hop ∷ next ∷ hops) sized each odd none fit =
    (forward_spelled next each.1.0, payloads_spelled arrival (next ∷ hops) sized each.1 odd none (omega arith))

record AreBuilt (fault : Option ArrivalFault) (all payloads : List (List ℕ)) : Type 0 where
  faultless : fault ≡ None
  fit : onion_len all ≤ 1300
  same : all ≡ payloads

built_ok : (fault : Option ArrivalFault) (all payloads : List (List ℕ)) → unless_fault fault all ≡ Ok payloads → AreBuilt fault all payloads
built_ok (Some fault) all payloads e = absurd cc
built_ok None all payloads e =
    elim (chosen (ltb 1300 (onion_len all)) (Err TooLong) (Ok all) (Ok payloads) e) [
      | inl long ↦ let never = long.1 in absurd cc
      | inr fits ↦
          let test = fits.0 in
          record { faultless = refl; fit = grind (arith, nat_tests); same = ok_is all payloads fits.1 }
    ]

pub built_for_spelled : BuiltForIsSpelled
built_for_spelled = λ arrival hops payloads sized each odd e.
    let built = built_ok (types_fault 65535 arrival.records) (payloads_for arrival hops) payloads e in
    subst (AllZip IsPayload (told_for arrival hops)) built.same
    (payloads_spelled arrival hops sized each odd built.faultless built.fit)
