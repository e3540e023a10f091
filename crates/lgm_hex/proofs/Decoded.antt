-- Lanes of digits, and the bytes that they spell.
use Rattle.std.proofs.Common.{◌≡◌, ℕ, zero, suc, ◌+◌, ◌-◌, ◌*◌, ◌/◌, ◌%◌, ◌^◌, ◌<◌, ◌≤◌, ◌⊎◌, Bool, true, false, ◌&&◌, cond, eqb}
use Rattle.std.proofs.Common.{ltb, List, [], ◌∷◌, map, length, get_or, replicate, Option, Some, None, unwrap_or, Ok, bit_and}
use Rattle.std.proofs.Common.{bit_or, w8, Fits, refl, sym, ap, ◌∙◌, inl, inr, arith, eqb-true, add-one, take, drop}
use Rattle.std.proofs.lemmas.Bool.{cases_lt}
use Rattle.std.proofs.lemmas.Bool.Decides.{Decides-below_and, Decides-eqb, nat_tests}
use Rattle.std.proofs.lemmas.List.{get_or-map, set-get_or}
use Rattle.std.proofs.lemmas.Nat.{le_or_l, le_or_r}
use Rattle.std.proofs.lemmas.Nat.Bits.{bit_at_ones}
use Rattle.std.proofs.lemmas.Simd.{bitmask_splat, bit_mask_l, below_from_Fits, Each1-get_or, get_or-zip2, get_or_wider}
use Rattle.std.proofs.lemmas.Simd.{length-chunk, get_or-chunk, get_or-put_chunk_below, get_or-put_chunk_at, get_or-put_chunk_above}
use lib.Lanes.{zip2, sel_l, mask_l, top, Each1, chunk, put_chunk, number_l, digits_l}
use Rattle.hex.specs.Hex.{◌>>=◌, hex_digit_value, digit_or_error, pair_value, decode_pairs, decode_sized}
use Rattle.hex.proofs.Pairs.{prepend, decode_start, decode_step, decode_done, decode_sized-pairs}
use Rattle.lgm_hex.specs.inner.Digits.{IsValue, AreValid, IsWithin, IsDecoded}

-- ---- values, lane by lane

-- what a vector's + and - compute of two lanes
abbrev more : ℕ → ℕ → ℕ
more a b = (a + b) % 2 ^ 8

abbrev less : ℕ → ℕ → ℕ
less a b = (a + (2 ^ 8 - b)) % 2 ^ 8

-- of two vectors, the lanes of one where the first is below the second, and else of the other
abbrev chosen : List ℕ → List ℕ → List ℕ → List ℕ → List ℕ
chosen xs ys = sel_l (map (top 7) (zip2 (λ a b. cond (ltb a b) 255 0) xs ys))

-- what the sum and the difference that stop at 255 and 0 compute
abbrev stopped_sum : List ℕ → List ℕ → List ℕ
stopped_sum xs ys = zip2 more xs (chosen ys (map (λ a. 255 - a) xs) ys (map (λ a. 255 - a) xs))

abbrev stopped_difference : List ℕ → List ℕ → List ℕ
stopped_difference xs ys = zip2 less (chosen xs ys ys xs) ys

abbrev numbers : ℕ → List ℕ → List ℕ
numbers n v = zip2 less (stopped_difference (zip2 more v (replicate n 198)) (replicate n 6)) (replicate n 240)

abbrev letters : ℕ → List ℕ → List ℕ
letters n v = stopped_sum (replicate n 10) (zip2 less (zip2 bit_and v (replicate n 223)) (replicate n 65))

-- what `values_of` computes of n lanes
abbrev computed : ℕ → List ℕ → List ℕ
computed n v = chosen (numbers n v) (letters n v) (numbers n v) (letters n v)

-- what it computes of one lane
abbrev lane : ℕ → ℕ
lane c = get_or (computed 1 (c ∷ [])) 0 0

by_lane : (v : List ℕ) → computed (length v) v ≡ map lane v
by_lane [] = refl
by_lane (c ∷ v) = ap (λ values. lane c ∷ values) (by_lane v)

-- where it is below 16 it is the value of the byte, and else the byte has none
abbrev agrees : ℕ → Bool
agrees c = eqb (cond (ltb (lane c) 16) (lane c) 255) (unwrap_or (hex_digit_value c) 255)

-- the test of each byte below n
abbrev agree_below : ℕ → Bool
agree_below zero = true
agree_below (suc n) = agrees n && agree_below n

lane_agrees : (c : ℕ) → c < 256 → cond (ltb (lane c) 16) (lane c) 255 ≡ unwrap_or (hex_digit_value c) 255
lane_agrees =
    (Decides-below_and agrees (λ c. cond (ltb (lane c) 16) (lane c) 255 ≡ unwrap_or (hex_digit_value c) 255)
    agree_below (λ c. Decides-eqb (cond (ltb (lane c) 16) (lane c) 255) (unwrap_or (hex_digit_value c) 255))
    refl (λ _. refl) 256).0 refl

value_found : (found : Option ℕ) (value : ℕ) → cond (ltb value 16) value 255 ≡ unwrap_or found 255 → value < 16 → found ≡ Some value
value_found (Some x) value e small = let same : x ≡ value = grind (arith, nat_tests) in ap Some same
value_found None value e small = absurd (grind (arith, nat_tests))

lane_is_value : (c : ℕ) → c < 256 → IsValue c (lane c)
lane_is_value c byte = value_found (hex_digit_value c) (lane c) (lane_agrees c byte)

-- `values_of` gives the value of each lane
pub values_are : (v : List ℕ) → length v ≡ 64 → Each1 (Fits w8) v → (k : ℕ) → k < 64 → IsValue (get_or v k 0) (get_or (computed (length v) v) k 0)
values_are v long fits k h =
    let within : k < length v = omega arith in
    let byte = Each1-get_or (λ c. c < 256) v k 0 within (below_from_Fits w8 v fits) in
    rw (by_lane v, get_or-map lane v k 0 0 within) (lane_is_value (get_or v k 0) byte)

-- where the mask of a vector's lanes below 16 is whole, each lane is
pub all_small : (v : List ℕ) → length v ≡ 64
    → eqb (mask_l (map (top 7) (zip2 (λ a b. cond (ltb a b) 255 0) v (replicate 64 16))) % 2 ^ 64) 18446744073709551615 ≡ true
    → AreValid v
all_small v long test k h =
    let within : k < length v = omega arith in
    let mask = sym (bitmask_splat w8 ltb v 64 16 long (omega arith)) ∙ eqb-true _ _ test in
    let bit = sym (bit_mask_l (map (λ x. ltb x 16) v) k) ∙ ap (λ n. n / 2 ^ k % 2) mask ∙ bit_at_ones 64 k h in
    let lane = get_or-map (λ x. ltb x 16) v k 0 false within in
    grind (arith, nat_tests)

-- where the bits of two vectors are put together, and each lane is below 16, it is so in both
pub both_valid : (v w : List ℕ) → length v ≡ 64 → length w ≡ 64 → AreValid (zip2 bit_or v w) → AreValid v × AreValid w
both_valid v w long also valid = (
  λ k h. omega (arith, valid k h, together k h, le_or_l (get_or v k 0) (get_or w k 0)),
  λ k h. omega (arith, valid k h, together k h, le_or_r (get_or v k 0) (get_or w k 0)),
)
  where
    together : (k : ℕ) → k < 64 → get_or (zip2 bit_or v w) k 0 ≡ bit_or (get_or v k 0) (get_or w k 0)
    together k h = get_or-zip2 bit_or v w k 0 0 0 (omega arith) (omega arith)

-- ---- bytes

-- what `joined` computes of a pair of values, which is a number of 16 bits
abbrev byte_of : ℕ → ℕ
byte_of pair = pair * 4097 % 65536 / 256

two : (xs : List ℕ) → length xs ≡ 2 → number_l 256 xs ≡ get_or xs 0 0 + 256 * get_or xs 1 0
two [] long = absurd (omega arith)
two (x ∷ []) long = absurd (omega arith)
two (x ∷ y ∷ []) long = omega arith
two (x ∷ y ∷ z ∷ xs) long = absurd (omega arith)

-- `joined` gives the byte of each pair
pub joined_are : (v : List ℕ) → length v ≡ 64 → Each1 (Fits w8) v → AreValid v → (k : ℕ) → k < 32
    → get_or (map byte_of (digits_l 65536 32 (number_l 256 v))) k 0 ≡ get_or v (2 * k) 0 * 16 + get_or v (2 * k + 1) 0
joined_are v long fits valid k h =
    let wide = get_or_wider 256 2 65536 32 v k refl (below_from_Fits w8 v fits) h in
    let size = length-chunk (2 * k) 2 v (omega arith) in
    let first : 2 * k + 0 ≡ 2 * k = omega arith in
    let high = get_or-chunk (2 * k) 2 v 0 0 (omega arith) ∙ ap (λ p. get_or v p 0) first in
    let low = get_or-chunk (2 * k) 2 v 1 0 (omega arith) in
    let small_high = valid (2 * k) (omega arith) in
    let small_low = valid (2 * k + 1) (omega arith) in
    let number = two (chunk (2 * k) 2 v) size in
    get_or-map byte_of (digits_l 65536 32 (number_l 256 v)) k 0 0 (omega arith)
    ∙ ap byte_of (wide ∙ number)
    ∙ omega (arith, high, low)

-- two digits with values have a byte
pair_reads : (high low i h l : ℕ) → hex_digit_value high ≡ Some h → hex_digit_value low ≡ Some l → pair_value high low i ≡ Ok (h * 16 + l)
pair_reads high low i h l e f =
    ap (λ (o : Option ℕ). digit_or_error high i o >>= (λ x. digit_or_error low (i + 1) (hex_digit_value low) >>= (λ y. Ok (x * 16 + y)))) e
    ∙ ap (λ (o : Option ℕ). digit_or_error low (i + 1) o >>= (λ y. Ok (h * 16 + y))) f

-- a block decodes its 32 bytes, and changes no others
pub block_decoded : (digits out bytes values : List ℕ) (at : ℕ) → at + 32 ≤ length out → length digits ≡ 2 * length out → length bytes ≡ 32
    → ((k : ℕ) → k < 64 → IsValue (get_or (chunk (2 * at) 64 digits) k 0) (get_or values k 0))
    → (AreValid values → (k : ℕ) → k < 32 → get_or bytes k 0 ≡ get_or values (2 * k) 0 * 16 + get_or values (2 * k + 1) 0)
    → AreValid values → (k : ℕ) → IsWithin at 32 k ⊎ IsDecoded digits out k → IsDecoded digits (put_chunk at out bytes) k
block_decoded digits out bytes values at room twice long are joined valid k h =
    elim (cases_lt k at) [
      | inl below ↦ rw (get_or-put_chunk_below at out bytes k 0 below) (before (λ within. absurd (omega (arith, within.0))) h)
      | inr from ↦ elim (cases_lt k (at + 32)) [
        | inl within ↦
            let j = k - at in
            let e : at + j ≡ k = omega arith in
            let byte = get_or-put_chunk_at at out bytes j 0 (omega arith) (omega arith) ∙ joined valid j (omega arith) in
            pair_reads (get_or digits (2 * k) 0) (get_or digits (2 * k + 1) 0) (2 * k) (get_or values (2 * j) 0)
            (get_or values (2 * j + 1) 0) (value_at (2 * j) (2 * k) (omega arith) (omega arith))
            (value_at (2 * j + 1) (2 * k + 1) (omega arith) (omega arith))
            ∙ ap Ok (sym (rw e at byte))
        | inr above ↦ rw (get_or-put_chunk_above at out bytes k 0 (omega arith)) (before (λ within. absurd (omega (arith, within.1))) h)
      ]
    ]
  where
    before : (IsWithin at 32 k → ⊥) → IsWithin at 32 k ⊎ IsDecoded digits out k → IsDecoded digits out k
    before never (inl within) = absurd (never within)
    before never (inr done) = done

    value_at : (i m : ℕ) → i < 64 → 2 * at + i ≡ m → hex_digit_value (get_or digits m 0) ≡ Some (get_or values i 0)
    value_at i m h e =
        ap (λ p. hex_digit_value (get_or digits p 0)) (sym e)
        ∙ ap hex_digit_value (sym (get_or-chunk (2 * at) 64 digits i 0 h)) ∙ are i h (valid i h)

-- the bytes before n, and what the rest of the text decodes to
front : (s out : List ℕ) (n : ℕ) → n ≤ length out → length s ≡ 2 * length out → ((k : ℕ) → k < n → IsDecoded s out k)
    → decode_pairs 0 s ≡ prepend (take n out) (decode_pairs (2 * n) (drop (2 * n) s))
front s out zero within twice done = decode_start s out
front s out (suc n) within twice done =
    let before = front s out n (omega arith) twice (λ k h. done k (omega arith)) in
    rw (set-get_or, add-one) at (decode_step s out n (get_or out n 0) (omega arith) (omega arith) (done n (omega arith)) before)

-- where each byte is decoded, the text is
pub all_decoded : (s out : List ℕ) → length s ≡ 2 * length out → ((k : ℕ) → k < length out → IsDecoded s out k) → decode_sized s (length out) ≡ Ok out
all_decoded s out twice done =
    decode_sized-pairs s (length out) (omega arith) (omega arith)
    ∙ decode_done s out (length out) (omega arith) (omega arith) (front s out (length out) (omega arith) twice done)
