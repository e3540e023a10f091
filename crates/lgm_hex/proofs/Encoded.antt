-- Lanes of bytes, and the digits that spell them.
use Rattle.std.proofs.Common.{◌≡◌, ℕ, zero, suc, ◌+◌, ◌-◌, ◌*◌, ◌/◌, ◌%◌, ◌^◌, ◌<◌, ◌≤◌, Bool, true, ◌&&◌, eqb, List, [], ◌∷◌, ◌++◌}
use Rattle.std.proofs.Common.{length, get_or, replicate, bit_and, w8, refl, sym, ap, ◌∙◌, inl, inr, arith, add-one, take, drop, slice_index}
use Rattle.std.proofs.lemmas.Bool.{cases_lt}
use Rattle.std.proofs.lemmas.Bool.Decides.{Decides-below_and, Decides-eqb}
use Rattle.std.proofs.lemmas.List.{get_or-map, set-get_or, get_or_append_left, get_or-append_right, append_assoc, append-nil, take-take, drop_all}
use Rattle.std.proofs.lemmas.Nat.{and_mask}
use Rattle.std.proofs.Math.Seq.{take-add, take-append-add}
use Rattle.std.proofs.lemmas.Simd.{SwzOk, swz_l, SwzOk-from_below, get_or-swz_l_below, Each1-from_get_or, get_or-zip2}
use Rattle.std.proofs.lemmas.Simd.{get_or-replicate, length-chunk}
use lib.Lanes.{zip2, pick_l, chunk}
use Rattle.std.specs.Prelude.{slice_range}
use Rattle.hex.specs.Hex.{lower_digits, encode_with, encode_lower}
use Rattle.hex.proofs.Pairs.{encode_step, encode_done, encode_with-drop}
use Rattle.lgm_hex.specs.inner.Digits.{IsEncoded}

-- ---- digits, lane by lane

-- the digits, twice: once for each block of 16 lanes
abbrev pub table : List ℕ
table = lower_digits ++ lower_digits

-- values below 16 may be looked up
pub may_look_up : (values : List ℕ) → length values ≡ 32 → ((k : ℕ) → k < 32 → get_or values k 0 < 16) → SwzOk w8 16 32 0 values
may_look_up values long small =
    SwzOk-from_below w8 16 2 32 0 values refl (omega arith) (Each1-from_get_or (λ j. j < 16) values 0 (λ k h. small k (omega arith)))

-- what is looked up is the digit of the value
pub digits_are : (values : List ℕ) → length values ≡ 32 → ((k : ℕ) → k < 32 → get_or values k 0 < 16) → (k : ℕ) → k < 32
    → get_or (swz_l w8 16 table 0 values) k 0 ≡ get_or lower_digits (get_or values k 0) 0
digits_are values long small k h =
    get_or-swz_l_below w8 16 table 0 values k (omega arith) (small k h) ∙ elim (cases_lt k 16) [
      | inl below ↦
          let here : 16 * ((0 + k) / 16) + get_or values k 0 ≡ get_or values k 0 = omega arith in
          ap (λ p. get_or table p 0) here ∙ get_or_append_left lower_digits lower_digits 0 (get_or values k 0) (small k h)
      | inr above ↦
          let here : 16 * ((0 + k) / 16) + get_or values k 0 ≡ 16 + get_or values k 0 = omega arith in
          let back : 16 + get_or values k 0 - 16 ≡ get_or values k 0 = omega arith in
          ap (λ p. get_or table p 0) here
          ∙ get_or-append_right lower_digits lower_digits 16 (16 + get_or values k 0) 0 refl (omega arith)
          ∙ ap (λ p. get_or lower_digits p 0) back
    ]

-- the higher and the lower half of each lane
pub high_halves : (bytes : List ℕ) → length bytes ≡ 32 → (k : ℕ) → k < 32
    → get_or (zip2 (λ a b. a / 2 ^ b) bytes (replicate 32 4)) k 0 ≡ get_or bytes k 0 / 16
high_halves bytes long k h =
    get_or-zip2 (λ a b. a / 2 ^ b) bytes (replicate 32 4) k 0 0 0 (omega arith) h
    ∙ ap (λ (s : ℕ). get_or bytes k 0 / 2 ^ s) (get_or-replicate 32 k 4 0 h)

pub low_halves : (bytes : List ℕ) → length bytes ≡ 32 → (k : ℕ) → k < 32
    → get_or (zip2 bit_and bytes (replicate 32 15)) k 0 ≡ get_or bytes k 0 % 16
low_halves bytes long k h =
    get_or-zip2 bit_and bytes (replicate 32 15) k 0 0 0 (omega arith) h
    ∙ ap (bit_and (get_or bytes k 0)) (get_or-replicate 32 k 15 0 h)
    ∙ and_mask (get_or bytes k 0) 4

-- ---- two vectors of digits, a digit of the one and a digit of the other in turn

abbrev in_turn : List ℕ
in_turn =
    0 ∷ 32 ∷ 1 ∷ 33 ∷ 2 ∷ 34 ∷ 3 ∷ 35 ∷ 4 ∷ 36 ∷ 5 ∷ 37 ∷ 6 ∷ 38 ∷ 7 ∷ 39 ∷ 8 ∷ 40 ∷ 9 ∷ 41 ∷ 10 ∷ 42 ∷ 11 ∷ 43 ∷
    12 ∷ 44 ∷ 13 ∷ 45 ∷ 14 ∷ 46 ∷ 15 ∷ 47 ∷ 16 ∷ 48 ∷ 17 ∷ 49 ∷ 18 ∷ 50 ∷ 19 ∷ 51 ∷ 20 ∷ 52 ∷ 21 ∷ 53 ∷ 22 ∷ 54 ∷
    23 ∷ 55 ∷ 24 ∷ 56 ∷ 25 ∷ 57 ∷ 26 ∷ 58 ∷ 27 ∷ 59 ∷ 28 ∷ 60 ∷ 29 ∷ 61 ∷ 30 ∷ 62 ∷ 31 ∷ 63 ∷ []

-- the tests that lanes 2 k and 2 k + 1 are lane k of the one and of the other, for each k below n
abbrev first_below : ℕ → Bool
first_below zero = true
first_below (suc n) = eqb (get_or in_turn (2 * n) 0) n && first_below n

abbrev second_below : ℕ → Bool
second_below zero = true
second_below (suc n) = eqb (get_or in_turn (2 * n + 1) 0) (32 + n) && second_below n

first_of_one : (k : ℕ) → k < 32 → get_or in_turn (2 * k) 0 ≡ k
first_of_one =
    (Decides-below_and (λ k. eqb (get_or in_turn (2 * k) 0) k) (λ k. get_or in_turn (2 * k) 0 ≡ k) first_below
    (λ k. Decides-eqb (get_or in_turn (2 * k) 0) k) refl (λ _. refl) 32).0 refl

second_of_other : (k : ℕ) → k < 32 → get_or in_turn (2 * k + 1) 0 ≡ 32 + k
second_of_other =
    (Decides-below_and (λ k. eqb (get_or in_turn (2 * k + 1) 0) (32 + k))
    (λ k. get_or in_turn (2 * k + 1) 0 ≡ 32 + k) second_below
    (λ k. Decides-eqb (get_or in_turn (2 * k + 1) 0) (32 + k)) refl (λ _. refl) 32).0 refl

-- `pairs_of` gives the digits of each byte
pub pairs_are : (bytes high low : List ℕ) → length high ≡ 32 → length low ≡ 32
    → ((k : ℕ) → k < 32 → get_or high k 0 ≡ get_or lower_digits (get_or bytes k 0 / 16) 0)
    → ((k : ℕ) → k < 32 → get_or low k 0 ≡ get_or lower_digits (get_or bytes k 0 % 16) 0)
    → IsEncoded bytes (pick_l 0 (high ++ low) in_turn) 32
pairs_are bytes high low long also highs lows k h = (
  get_or-map at_lane in_turn (2 * k) 0 0 (omega arith) ∙ ap at_lane (first_of_one k h) ∙ get_or_append_left high low 0 k (omega arith) ∙ highs k h,
  get_or-map at_lane in_turn (2 * k + 1) 0 0 (omega arith) ∙ ap at_lane (second_of_other k h)
      ∙ get_or-append_right high low 32 (32 + k) 0 long (omega arith)
      ∙ ap (λ p. get_or low p 0) back ∙ lows k h,
)
  where
    at_lane : ℕ → ℕ
    at_lane p = get_or (high ++ low) p 0

    back : 32 + k - 32 ≡ k
    back = omega arith

-- ---- text

-- the digits of the bytes before n, and those of the rest
front : (bytes out : List ℕ) (n : ℕ) → n ≤ length bytes → length out ≡ 2 * length bytes → IsEncoded bytes out n
    → take (2 * n) out ++ encode_with lower_digits (drop n bytes) ≡ encode_lower bytes
front bytes out zero within twice done = refl
front bytes out (suc n) within twice done =
    let before = front bytes out n (omega arith) twice (λ k h. done k (omega arith)) in
    let here = done n (omega arith) in
    rw (set-get_or, set-get_or, add-one) at (encode_step lower_digits bytes out n (get_or out (2 * n) 0)
    (get_or out (2 * n + 1) 0) (omega arith) (omega arith) here.0 here.1 before)

-- where the digits of each byte are written, the text is
all_encoded : (bytes out : List ℕ) → length out ≡ 2 * length bytes → IsEncoded bytes out (length bytes) → out ≡ encode_lower bytes
all_encoded bytes out twice done =
    encode_done lower_digits bytes out (length bytes) (omega arith) twice (front bytes out (length bytes) (omega arith) twice done)

-- the digits of a block are those of its 32 bytes
pub block_encoded : (bytes digits : List ℕ) (at : ℕ) → at + 32 ≤ length bytes → length digits ≡ 64
    → IsEncoded (chunk at 32 bytes) digits 32 → digits ≡ encode_lower (slice_range bytes at (at + 32))
block_encoded bytes digits at room long pairs =
    let back : at + 32 - at ≡ 32 = omega arith in
    let block = length-chunk at 32 bytes room in
    rw back (all_encoded (chunk at 32 bytes) digits (omega (arith, block)) (λ k h. pairs k (omega (arith, block))))

-- the digits of one byte more, from the text before its first digit to that behind its second
pub byte_appended : (bytes before text between after : List ℕ) (i high low : ℕ) → i < length bytes
    → high ≡ slice_index lower_digits (slice_index bytes i / 16) → low ≡ slice_index lower_digits (slice_index bytes i % 16)
    → between ≡ text ++ high ∷ [] → after ≡ between ++ low ∷ []
    → text ++ encode_lower (drop i bytes) ≡ before ++ encode_lower bytes
    → after ++ encode_lower (drop (i + 1) bytes) ≡ before ++ encode_lower bytes
byte_appended bytes before text between after i high low h is_high is_low first second so_far =
    let rest = encode_with-drop lower_digits bytes i h in
    let tail = encode_lower (drop (i + 1) bytes) in
    let joined = append_assoc (text ++ high ∷ []) (low ∷ []) tail ∙ append_assoc text (high ∷ []) (low ∷ tail) in
    rw (second, first, joined, is_high, is_low) (rw rest at so_far)

-- the digits of two runs of bytes, one after the other
encode_append : (t xs ys : List ℕ) → encode_with t (xs ++ ys) ≡ encode_with t xs ++ encode_with t ys
unfolding encode_with
encode_append t [] ys = refl
encode_append t (b ∷ rest) ys = ap (λ text. slice_index t (b / 16) ∷ slice_index t (b % 16) ∷ text) (encode_append t rest ys)

-- the first digits are those of the first bytes
take-encode : (t : List ℕ) (n : ℕ) (bytes : List ℕ) → take (2 * n) (encode_with t bytes) ≡ encode_with t (take n bytes)
unfolding encode_with
take-encode t zero bytes = refl
take-encode t (suc n) [] = let two : 2 * suc n ≡ suc (suc (2 * n)) = omega arith in rw two refl
take-encode t (suc n) (b ∷ rest) =
    let two : 2 * suc n ≡ suc (suc (2 * n)) = omega arith in
    rw two (ap (λ text. slice_index t (b / 16) ∷ slice_index t (b % 16) ∷ text) (take-encode t n rest))

-- the bytes before an index, and those from there to a second one
take_further : (bytes : List ℕ) (n m : ℕ) → take n bytes ++ slice_range bytes n (n + m) ≡ take (n + m) bytes
take_further bytes n m =
    let back : n + m - n ≡ m = omega arith in
    rw back (sym (take-add n m bytes))

-- text to which the digits of a further block are appended
pub block_appended : (before text after bytes : List ℕ) (at : ℕ)
    → text ≡ before ++ encode_lower (take at bytes)
    → after ≡ text ++ encode_lower (slice_range bytes at (at + 32))
    → after ≡ before ++ encode_lower (take (at + 32) bytes)
block_appended before text after bytes at front block =
    block ∙ ap (λ t. t ++ encode_lower (slice_range bytes at (at + 32))) front
    ∙ append_assoc before _ _
    ∙ ap (λ t. before ++ t) (sym (encode_append lower_digits (take at bytes) (slice_range bytes at (at + 32)))
    ∙ ap encode_lower (take_further bytes at 32))

-- text of which the digits of the bytes from an index on are dropped
pub text_cut : (before text bytes : List ℕ) (n at : ℕ) → at ≤ n
    → text ≡ before ++ encode_lower (take n bytes)
    → take (length before + 2 * at) text ≡ before ++ encode_lower (take at bytes)
text_cut before text bytes n at within front =
    ap (take (length before + 2 * at)) front
    ∙ take-append-add before (encode_lower (take n bytes)) (2 * at)
    ∙ ap (λ t. before ++ t) (take-encode lower_digits at (take n bytes) ∙ ap encode_lower (take-take at n bytes within))

-- text that lacks the digits of no byte
pub none_left : (bytes before text : List ℕ) (i : ℕ) → length bytes ≤ i
    → text ++ encode_lower (drop i bytes) ≡ before ++ encode_lower bytes → text ≡ before ++ encode_lower bytes
unfolding encode_with
none_left bytes before text i h so_far =
    let none = drop_all i bytes h in
    rw (none, append-nil) at so_far
