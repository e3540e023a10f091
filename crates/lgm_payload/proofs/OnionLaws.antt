-- How long payloads are, and that they are read back.
use Rattle.std.proofs.Common.{◌≡◌, ℕ, suc, ◌+◌, ◌*◌, ◌<◌, ◌≤◌, Bool, true, false, cond, eqb, List}
use Rattle.std.proofs.Common.{[], ◌∷◌, ◌++◌, length, get_or, take, drop, Some, refl, ap, ◌∙◌, arith, inl, inr}
use Rattle.std.specs.Prelude.{IsTrue, IfOk, Result, Ok, Err}
use Rattle.std.specs.Int.{w64, to_be_bytes}
use Rattle.std.specs.List.{flat_map, AllByRecursion, AllZip}
use Rattle.std.proofs.lemmas.List.{length-append, append-nil, take_more, take-append-drop}
use Rattle.std.proofs.lemmas.List.Concat.{flat_map-cons}
use Rattle.lgm_wire.specs.BigSize.{bigsize_bytes}
use Rattle.lgm_wire.specs.TruncatedInteger.{truncated_bytes, without_leading_zeros}
use Rattle.lgm_wire.specs.Tlv.{TlvRecord, record_bytes}
use Rattle.lgm_wire.proofs.BigSizeLaws.{bigsize_bytes-one_byte}
use Rattle.lgm_graph.specs.declared.route.Hop.{Hop}
use Rattle.lgm_payload.specs.declared.hop_payload.HopPayload.{HopPayload}
use Rattle.lgm_payload.specs.declared.hop_payload.Payment.{Payment}
use Rattle.lgm_payload.specs.HopPayload.{IsPayload, text_of, records_of, payload_bytes}
use Rattle.lgm_payload.specs.Building.{forward, arrival, told, payloads_of, onion_len, IsSized}

-- ---- lengths

without_len : (digits : List ℕ) → length (without_leading_zeros digits) ≤ length digits
without_len [] = omega arith
without_len (digit ∷ digits) = by (eqb digit 0) (without_len digits)
  where
    by : (b : Bool) → length (without_leading_zeros digits) ≤ length digits
        → length (cond b (without_leading_zeros digits) (digit ∷ digits)) ≤ suc (length digits)
    by true le = omega arith
    by false le = omega arith

truncated_len : (n : ℕ) → length (truncated_bytes n) ≤ 8
truncated_len n = without_len (to_be_bytes w64 n)

one_byte : (n : ℕ) → n < 0xfd → length (bigsize_bytes n) ≡ 1
one_byte n lt = ap length (bigsize_bytes-one_byte n lt)

record_len : (kind : ℕ) (value : List ℕ) → kind < 0xfd → length value < 0xfd
    → length (record_bytes (record { kind = kind; value = value })) ≡ 2 + length value
record_len kind value small short =
    omega (
      arith,
      one_byte kind small,
      one_byte (length value) short,
      length-append (bigsize_bytes kind ++ bigsize_bytes (length value)) value,
      length-append (bigsize_bytes kind) (bigsize_bytes (length value)),
    )

three_len : (a b c : TlvRecord) → length (flat_map record_bytes (a ∷ b ∷ c ∷ []))
    ≡ length (record_bytes a) + (length (record_bytes b) + length (record_bytes c))
three_len a b c =
    let parts = flat_map-cons record_bytes a (b ∷ c ∷ []) in
    let behind = flat_map-cons record_bytes b (c ∷ []) in
    let last = flat_map-cons record_bytes c [] ∙ append-nil (record_bytes c) in
    omega (
      arith,
      ap length parts,
      length-append (record_bytes a) (flat_map record_bytes (b ∷ c ∷ [])),
      ap length behind,
      length-append (record_bytes b) (flat_map record_bytes (c ∷ [])),
      ap length last,
    )

forward_text : (next : Hop) → length (text_of (forward next)) ≤ 30
forward_text next =
    let amount = truncated_bytes next.amount in
    let expiry = truncated_bytes next.expiry in
    let a = truncated_len next.amount in
    let x = truncated_len next.expiry in
    let one = record_len 2 amount (omega arith) (omega arith) in
    let two = record_len 4 expiry (omega arith) (omega arith) in
    let three : length (record_bytes (record { kind = 6; value = to_be_bytes w64 next.scid })) ≡ 10 =
    record_len 6 (to_be_bytes w64 next.scid) (omega arith) (omega arith) in
    let all =
    three_len (record { kind = 2; value = amount }) (record { kind = 4; value = expiry })
    (record { kind = 6; value = to_be_bytes w64 next.scid }) in
    omega arith

arrival_text : (secret : List ℕ) (last : Hop) → length secret ≡ 32 → length (text_of (arrival secret last)) ≤ 62
arrival_text secret last len =
    let amount = truncated_bytes last.amount in
    let expiry = truncated_bytes last.expiry in
    let a = truncated_len last.amount in
    let x = truncated_len last.expiry in
    let paid : length (secret ++ amount) ≤ 40 = omega (arith, length-append secret amount) in
    let one = record_len 2 amount (omega arith) (omega arith) in
    let two = record_len 4 expiry (omega arith) (omega arith) in
    let three = record_len 8 (secret ++ amount) (omega arith) (omega arith) in
    let all = three_len (record { kind = 2; value = amount }) (record { kind = 4; value = expiry }) (record { kind = 8; value = secret ++ amount }) in
    omega arith

framed_len : (payload : HopPayload) → length (text_of payload) < 0xfd → length (payload_bytes payload) ≡ 1 + length (text_of payload)
framed_len payload short =
    omega (
      arith,
      one_byte (length (text_of payload)) short,
      length-append (bigsize_bytes (length (text_of payload))) (text_of payload),
    )

onion_most : (secret : List ℕ) (hops : List Hop) → length secret ≡ 32 → 1 ≤ length hops
    → onion_len (payloads_of secret hops) + 63 ≤ 63 * length hops + 95
onion_most secret [] len some = absurd (omega arith)
onion_most secret (hop ∷ []) len some =
    let short = arrival_text secret hop len in
    let size = framed_len (arrival secret hop) (omega arith) in
    omega arith
onion_most secret (hop ∷ next ∷ hops) len some =
    let short = forward_text next in
    let size = framed_len (forward next) (omega arith) in
    let later = onion_most secret (next ∷ hops) len (omega arith) in
    omega arith

-- the payloads of 1 to 20 hops fit the packet
pub onion_fits : (secret : List ℕ) (hops : List Hop) → length secret ≡ 32 → 1 ≤ length hops → length hops ≤ 20
    → onion_len (payloads_of secret hops) ≤ 1300
onion_fits secret hops len some few = let most = onion_most secret hops len some in omega arith

onion_len-append : (xs ys : List (List ℕ)) → onion_len (xs ++ ys) ≡ onion_len xs + onion_len ys
onion_len-append [] ys = omega arith
onion_len-append (x ∷ xs) ys = let later = onion_len-append xs ys in omega arith

-- one more payload
pub onion_more : (payloads : List (List ℕ)) (i : ℕ) (d : List ℕ) → i < length payloads
    → onion_len (take (i + 1) payloads) ≡ onion_len (take i payloads) + (length (get_or payloads i d) + 32)
onion_more payloads i d lt =
    let both = onion_len-append (take i payloads) (get_or payloads i d ∷ []) in
    ap onion_len (take_more payloads i d lt) ∙ omega arith

-- a payload for which there is no room
pub too_long : (payloads : List (List ℕ)) (i : ℕ) (d : List ℕ) (room : ℕ) → i < length payloads
    → onion_len (take i payloads) + room ≡ 1300 → room < length (get_or payloads i d) + 32
    → (IsTrue false → onion_len payloads ≤ 1300) × (onion_len payloads ≤ 1300 → IsTrue false)
too_long payloads i d room lt so_far short =
    let more = onion_more payloads i d lt in
    let both = onion_len-append (take (i + 1) payloads) (drop (i + 1) payloads) in
    let all = ap onion_len (take-append-drop (i + 1) payloads) in
    (λ (never : IsTrue false). absurd cc, λ (le : onion_len payloads ≤ 1300). absurd (omega arith))

-- payloads that are known fit
pub known_fit : {E : Type 0} (r : Result (List (List ℕ)) E) (all : List (List ℕ)) → IfOk r (λ payloads. payloads ≡ all)
    → onion_len all ≤ 1300 → IfOk r (λ payloads. onion_len payloads ≤ 1300)
known_fit (Ok payloads) all is fit = rw is fit
known_fit (Err e) all is fit = tt

-- ---- what was built encodes what it was built from

pub forward_spelled : (next : Hop) → IsSized next → IsPayload (forward next) (payload_bytes (forward next))
forward_spelled next sized =
    let short = forward_text next in
    let a = truncated_len next.amount in
    let x = truncated_len next.expiry in
    record {
      text = text_of (forward next);
      framed = record { whole = refl; len = omega arith };
      records = records_of (forward next);
      stream = record {
        fits = (
          record { kind = omega arith; len = omega arith },
          (
            record { kind = omega arith; len = omega arith },
            (record { kind = omega arith; len = omega arith }, tt),
          ),
        );
        rises = (tt, (omega arith, (omega arith, tt)));
        whole = refl;
      };
      kinds = (inl (inl refl), (inl (inr (inl refl)), (inl (inr (inr (inl refl))), tt)));
      amount = refl;
      expiry = refl;
      next = refl;
      payment = refl;
      metadata = refl;
      fits = record {
        amount = sized.amount;
        expiry = sized.expiry;
        next = λ scid e. let same : next.scid ≡ scid = cc in let lt = sized.scid in omega arith;
        secret = λ payment e. absurd cc;
        total = λ payment e. absurd cc;
      };
      one_way = inr refl;
    }

arrival_spelled : (secret : List ℕ) (last : Hop) → length secret ≡ 32 → IsSized last
    → IsPayload (arrival secret last) (payload_bytes (arrival secret last))
arrival_spelled secret last len sized =
    let short = arrival_text secret last len in
    let a = truncated_len last.amount in
    let x = truncated_len last.expiry in
    let paid : length (secret ++ truncated_bytes last.amount) ≤ 40 = omega (arith, length-append secret (truncated_bytes last.amount)) in
    record {
      text = text_of (arrival secret last);
      framed = record { whole = refl; len = omega arith };
      records = records_of (arrival secret last);
      stream = record {
        fits = (
          record { kind = omega arith; len = omega arith },
          (
            record { kind = omega arith; len = omega arith },
            (record { kind = omega arith; len = omega arith }, tt),
          ),
        );
        rises = (tt, (omega arith, (omega arith, tt)));
        whole = refl;
      };
      kinds = (inl (inl refl), (inl (inr (inl refl)), (inl (inr (inr (inr (inl refl)))), tt)));
      amount = refl;
      expiry = refl;
      next = refl;
      payment = refl;
      metadata = refl;
      fits = record {
        amount = sized.amount;
        expiry = sized.expiry;
        next = λ scid e. absurd cc;
        secret = λ payment e. let same : secret ≡ payment.secret = secret_is secret last.amount payment e in omega (arith, ap length same);
        total = λ payment e. let same : last.amount ≡ payment.total = total_is secret last.amount payment e in let lt = sized.amount in omega arith;
      };
      one_way = inl refl;
    }
  where
    secret_is : (s : List ℕ) (n : ℕ) (payment : Payment) → Some (record { secret = s; total = n }) ≡ Some payment → s ≡ payment.secret
    secret_is s n payment e = let same : record { secret = s; total = n } ≡ payment = cc in ap (λ p. p.secret) same

    total_is : (s : List ℕ) (n : ℕ) (payment : Payment) → Some (record { secret = s; total = n }) ≡ Some payment → n ≡ payment.total
    total_is s n payment e = let same : record { secret = s; total = n } ≡ payment = cc in ap (λ p. p.total) same

pub built_spelled : (secret : List ℕ) (hops : List Hop) → length secret ≡ 32 → AllByRecursion IsSized hops
    → AllZip IsPayload (told secret hops) (payloads_of secret hops)
built_spelled secret [] len sized = tt
built_spelled secret (hop ∷ []) len sized = (arrival_spelled secret hop len sized.0, tt)
built_spelled secret (hop ∷ next ∷ hops) len sized = (forward_spelled next sized.1.0, built_spelled secret (next ∷ hops) len sized.1)
