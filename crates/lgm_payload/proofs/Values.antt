-- The values of records: numbers, ids and payments.
use Rattle.std.proofs.Common.{◌≡◌, ℕ, ◌^◌, ◌<◌, ◌≤◌, false, ltb, List, [], ◌∷◌, ◌++◌, length}
use Rattle.std.proofs.Common.{take, drop, None, refl, sym, ap, ◌∙◌, arith}
use Rattle.std.specs.Prelude.{All}
use Rattle.std.specs.Int.{w64, to_be_bytes, from_be_bytes}
use Rattle.std.specs.List.{AllByRecursion}
use Rattle.std.proofs.lemmas.Bool.{eqb-false, ne_eqb, le-ltb}
use Rattle.std.proofs.lemmas.Bool.Decides.{nat_tests}
use Rattle.std.proofs.lemmas.List.{take-append-drop, take_at, drop_at, length-append, length-take}
use Rattle.std.proofs.lemmas.List.Elements.{All-from_recursion}
use Rattle.std.proofs.Math.Nat.{pow-le-pow_right}
use Rattle.lgm_wire.specs.TruncatedInteger.{number_of, IsTruncatedInteger, StartsWithZero, truncated_bytes}
use Rattle.lgm_wire.specs.reading.TruncatedIntegerReading.{starts_with_zero}
use Rattle.lgm_wire.proofs.TruncatedIntegerLaws.{number_of-below, short_bytes, same_bytes, IsTruncatedInteger-truncated_bytes}
use Rattle.lgm_gossip.proofs.WireLaws.{IsBytes, IsBytes-drop, IsBytes-rest, wide64}
use Rattle.lgm_payload.specs.declared.hop_payload.Payment.{Payment}
use Rattle.lgm_payload.specs.HopPayload.{payment_bytes}
use Rattle.lgm_payload.specs.reading.Reading.{number_fault, scid_fault, payment_fault, payment_of}

-- ---- numbers

not_zero : (bytes : List ℕ) → starts_with_zero bytes ≡ false → ¬ StartsWithZero bytes
not_zero [] e zero = zero
not_zero (b ∷ bs) e zero = eqb-false b 0 e zero

zero_not : (bytes : List ℕ) → ¬ StartsWithZero bytes → starts_with_zero bytes ≡ false
zero_not [] ne = refl
zero_not (b ∷ bs) ne = ne_eqb b 0 ne

digits_each : (bytes : List ℕ) → IsBytes bytes → AllByRecursion (λ digit. digit < 256) bytes
digits_each [] fits = tt
digits_each (b ∷ bs) fits = (fits 0, digits_each bs (IsBytes-rest b bs fits))

are_digits : (bytes : List ℕ) → IsBytes bytes → All (λ digit. digit < 256) bytes
are_digits bytes fits = All-from_recursion (λ digit. digit < 256) bytes (digits_each bytes fits)

-- a number without fault is the encoding of its value
pub record IsNumber (most : ℕ) (value : List ℕ) : Type 0 where
  pub spells : value ≡ truncated_bytes (number_of value)
  pub below : number_of value < 256 ^ most

pub number_lawful : (kind most : ℕ) (value : List ℕ) → most ≤ 8 → number_fault kind most value ≡ None → IsBytes value → IsNumber most value
number_lawful kind most value few none fits =
    let short : length value ≤ most = grind (arith, nat_tests) in
    let minimal : starts_with_zero value ≡ false = grind (arith, nat_tests) in
    let digits = are_digits value fits in
    let below = number_of-below value digits in
    let room : 256 ^ length value ≤ 256 ^ most = pow-le-pow_right {n = 256} (omega arith) {i = length value} {j = most} short in
    let wide : 256 ^ most ≤ 256 ^ 8 = pow-le-pow_right {n = 256} (omega arith) {i = most} {j = 8} few in
    let lt : number_of value < 2 ^ 64 = omega arith in
    record {
      spells =
          same_bytes (number_of value) value (truncated_bytes (number_of value))
          (record { digits = digits; minimal = not_zero value minimal; value = refl })
          (IsTruncatedInteger-truncated_bytes (number_of value) lt);
      below = omega arith;
    }

-- and a number's encoding has no fault
pub number_spelled : (kind most n : ℕ) → n < 256 ^ most → most ≤ 8 → number_fault kind most (truncated_bytes n) ≡ None
number_spelled kind most n lt few =
    let wide : 256 ^ most ≤ 256 ^ 8 = pow-le-pow_right {n = 256} (omega arith) {i = most} {j = 8} few in
    let fits : n < 2 ^ 64 = omega arith in
    let spells = IsTruncatedInteger-truncated_bytes n fits in
    let short : ltb most (length (truncated_bytes n)) ≡ false = le-ltb _ _ (short_bytes n most (truncated_bytes n) lt spells) in
    let minimal = zero_not (truncated_bytes n) spells.minimal in
    rw (short, minimal) refl

pub number_again : (n : ℕ) → n < 2 ^ 64 → number_of (truncated_bytes n) ≡ n
number_again n lt = sym (IsTruncatedInteger-truncated_bytes n lt).value

-- a number is below the power of 256 that its bytes make room for
pub number_small : (most : ℕ) (value : List ℕ) (n : ℕ) → length value ≤ most → IsTruncatedInteger n value → n < 256 ^ most
number_small most value n short is =
    let below = number_of-below value is.digits in
    let room : 256 ^ length value ≤ 256 ^ most = pow-le-pow_right {n = 256} (omega arith) {i = length value} {j = most} short in
    let same = is.value in
    omega arith

-- ---- ids and payments

pub scid_lawful : (value : List ℕ) → scid_fault value ≡ None → IsBytes value → value ≡ to_be_bytes w64 (from_be_bytes w64 value)
scid_lawful value none fits =
    let len : length value ≡ 8 = grind (arith, nat_tests) in
    sym (wide64.back value len fits)

pub record IsPaid (value : List ℕ) : Type 0 where
  pub spells : value ≡ payment_bytes (payment_of value)
  pub secret : length (take 32 value) ≡ 32
  pub total : number_of (drop 32 value) < 2 ^ 64

pub payment_lawful : (value : List ℕ) → payment_fault value ≡ None → IsBytes value → IsPaid value
payment_lawful value none fits =
    let long : 32 ≤ length value = grind (arith, nat_tests) in
    let lawful : number_fault 8 8 (drop 32 value) ≡ None = grind (arith, nat_tests) in
    let total = number_lawful 8 8 (drop 32 value) (omega arith) lawful (IsBytes-drop 32 value fits) in
    record {
      spells = sym (take-append-drop 32 value) ∙ ap (λ (s : List ℕ). take 32 value ++ s) total.spells;
      secret = omega (arith, length-take 32 value);
      total = let lt = total.below in omega arith;
    }

pub payment_spelled : (payment : Payment) → length payment.secret ≡ 32 → payment.total < 2 ^ 64 → payment_fault (payment_bytes payment) ≡ None
payment_spelled payment len lt =
    let total = truncated_bytes payment.total in
    let long : ltb (length (payment_bytes payment)) 32 ≡ false = le-ltb _ _ (omega (arith, length-append payment.secret total)) in
    let back : drop 32 (payment_bytes payment) ≡ total = drop_at payment.secret total 32 len in
    rw (long, back) (number_spelled 8 8 payment.total (omega arith) (omega arith))

pub payment_again : (payment : Payment) → length payment.secret ≡ 32 → payment.total < 2 ^ 64 → payment_of (payment_bytes payment) ≡ payment
payment_again payment len lt =
    let total = truncated_bytes payment.total in
    let front : take 32 (payment_bytes payment) ≡ payment.secret = take_at payment.secret total 32 len in
    let back : drop 32 (payment_bytes payment) ≡ total = drop_at payment.secret total 32 len in
    rw (front, back, number_again payment.total lt) refl
