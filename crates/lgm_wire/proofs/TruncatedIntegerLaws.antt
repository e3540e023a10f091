-- Truncated integers: numbers in base 256, with and without leading zeros.
use Rattle.std.proofs.Common.{◌≡◌, ℕ, suc, ◌+◌, ◌*◌, ◌^◌, ◌<◌, ◌≤◌, true, eqb, List, [], ◌∷◌, ◌++◌}
use Rattle.std.proofs.Common.{length, drop, refl, sym, ap, subst, ◌∙◌, arith, add-one, inl, inr}
use Rattle.std.specs.Prelude.{All}
use Rattle.std.specs.Int.{w64, from_be_bytes, to_be_bytes}
use Rattle.std.specs.List.{take_while}
use Rattle.std.proofs.Math.Nat.{pow-le-pow_right, pow-suc, mul-le-mul_right}
use Rattle.std.proofs.lemmas.Bool.{cases_lt, cases_eq, ne_eqb}
use Rattle.std.proofs.lemmas.List.{length_push}
use Rattle.std.proofs.lemmas.List.Elements.{All-head, All-tail, All-from_recursion}
use Rattle.std.proofs.lemmas.List.Sums.{take_while-cons}
use Rattle.std.proofs.lemmas.Nat.{from_be_bytes-to_be_bytes_8}
use Rattle.lgm_wire.specs.TruncatedInteger.{number_of, StartsWithZero, IsTruncatedInteger, without_leading_zeros, truncated_bytes}

-- ---- reading digit by digit

-- one more power
pow_more : (i : ℕ) → 256 ^ (i + 1) ≡ 256 ^ i * 256
pow_more i = rw add-one (pow-suc 256 i)

-- one more digit
pub number_of-push : (xs : List ℕ) (y : ℕ) → number_of (xs ++ y ∷ []) ≡ number_of xs * 256 + y
number_of-push [] y = omega arith
number_of-push (x ∷ xs) y =
    let len : 256 ^ length (xs ++ y ∷ []) ≡ 256 ^ length xs * 256 = ap (λ k. 256 ^ k) (length_push xs y) ∙ pow_more (length xs) in
    let rest = number_of-push xs y in
    rw (len, rest) (omega arith)

-- with less than eight bytes read there is room for one more
pub room : (v i : ℕ) → v < 256 ^ i → i < 8 → v < 256 ^ 7
room v i lt few =
    let le : 256 ^ i ≤ 256 ^ 7 = pow-le-pow_right {n = 256} (omega arith) {i = i} {j = 7} (omega arith) in
    omega arith

-- one more digit makes a number one digit longer
pub more : (v i y : ℕ) → v < 256 ^ i → y < 256 → v * 256 + y < 256 ^ (i + 1)
more v i y lt small = omega (arith, pow_more i)

-- ---- how large a number is

-- digits in base 256
abbrev IsDigit : ℕ → Type 0
IsDigit digit = digit < 256

abbrev AreDigits : List ℕ → Type 0
AreDigits bytes = All (λ digit. digit < 256) bytes

-- a number is below the power of 256 that its digits make room for
pub number_of-below : (bytes : List ℕ) → AreDigits bytes → number_of bytes < 256 ^ length bytes
number_of-below [] all = omega arith
number_of-below (x ∷ xs) all =
    let rest = number_of-below xs (All-tail IsDigit x xs all) in
    let first : x < 256 = All-head IsDigit x xs all in
    let product : (x + 1) * 256 ^ length xs ≤ 256 * 256 ^ length xs = mul-le-mul_right (256 ^ length xs) (omega arith) in
    let size : 256 ^ suc (length xs) ≡ 256 ^ length xs * 256 = pow-suc 256 (length xs) in
    omega (arith, rest, product, size)

-- a number without leading zeros has no fewer digits than it needs
at_least : (x : ℕ) (xs : List ℕ) → ¬ StartsWithZero (x ∷ xs) → 256 ^ length xs ≤ number_of (x ∷ xs)
at_least x xs minimal =
    let some : 0 < x = elim (cases_eq x 0) [ inl e ↦ absurd (minimal e) | inr n ↦ omega arith ] in
    let product : 1 * 256 ^ length xs ≤ x * 256 ^ length xs = mul-le-mul_right (256 ^ length xs) (omega arith) in
    omega (arith, product)

-- a truncated integer has no more digits than it needs
pub short_bytes : (v n : ℕ) (b : List ℕ) → v < 256 ^ n → IsTruncatedInteger v b → length b ≤ n
short_bytes v n [] lt spells = omega arith
short_bytes v n (x ∷ xs) lt spells =
    let least = at_least x xs spells.minimal in
    elim (cases_lt (length xs) n) [
      | inl few ↦ omega arith
      | inr many ↦
          let le : 256 ^ n ≤ 256 ^ length xs = pow-le-pow_right {n = 256} (omega arith) {i = n} {j = length xs} many in
          absurd (omega (arith, spells.value, least, le))
    ]

-- ---- one encoding

-- a first digit and the number after it are determined by the whole number
split_digits : (p x y u w : ℕ) → u < p → w < p → x * p + u ≡ y * p + w → (x ≡ y) × (u ≡ w)
split_digits p x y u w ul wl e =
    elim (cases_lt x y) [
      | inl lt ↦ let le : (x + 1) * p ≤ y * p = mul-le-mul_right p (omega arith) in absurd (omega arith)
      | inr ge ↦ elim (cases_lt y x) [
        | inl lt ↦ let le : (y + 1) * p ≤ x * p = mul-le-mul_right p (omega arith) in absurd (omega arith)
        | inr le ↦
            let same : x ≡ y = omega arith in
            let products : x * p ≡ y * p = ap (λ (k : ℕ). k * p) same in
            (same, omega arith)
      ]
    ]

-- digits, of one length, are determined by their number
same_digits : (a b : List ℕ) → length a ≡ length b → AreDigits a → AreDigits b → number_of a ≡ number_of b → a ≡ b
same_digits [] [] len p q e = refl
same_digits [] (y ∷ ys) len p q e = absurd (omega arith)
same_digits (x ∷ xs) [] len p q e = absurd (omega arith)
same_digits (x ∷ xs) (y ∷ ys) len p q e =
    let k : length xs ≡ length ys = omega arith in
    let power : 256 ^ length ys ≡ 256 ^ length xs = ap (λ (i : ℕ). 256 ^ i) (sym k) in
    let left = number_of-below xs (All-tail IsDigit x xs p) in
    let right : number_of ys < 256 ^ length xs = omega (arith, power, number_of-below ys (All-tail IsDigit y ys q)) in
    let moved : y * 256 ^ length ys ≡ y * 256 ^ length xs = ap (λ (i : ℕ). y * i) power in
    let parts = split_digits (256 ^ length xs) x y (number_of xs) (number_of ys) left right (omega (arith, e, moved)) in
    let rest = same_digits xs ys k (All-tail IsDigit x xs p) (All-tail IsDigit y ys q) parts.1 in
    let first = parts.0 in
    cc

-- a number has one encoding
pub same_bytes : (v : ℕ) (a b : List ℕ) → IsTruncatedInteger v a → IsTruncatedInteger v b → a ≡ b
same_bytes v a b p q =
    let pa : v < 256 ^ length a = omega (arith, p.value, number_of-below a p.digits) in
    let qb : v < 256 ^ length b = omega (arith, q.value, number_of-below b q.digits) in
    let le = short_bytes v (length b) a qb p in
    let ge = short_bytes v (length a) b pa q in
    same_digits a b (omega arith) p.digits q.digits (sym p.value ∙ q.value)

-- ---- leading zeros

-- a first digit is removed or stays
without-zero : (x : ℕ) (xs : List ℕ) → x ≡ 0 → without_leading_zeros (x ∷ xs) ≡ without_leading_zeros xs
without-zero x xs e = rw e refl

without-digit : (x : ℕ) (xs : List ℕ) → ¬ (x ≡ 0) → without_leading_zeros (x ∷ xs) ≡ x ∷ xs
without-digit x xs n = rw (ne_eqb x 0 n) refl

-- the bytes after the leading zeros, as the code finds them
pub drop-leading : (bytes : List ℕ) (count : ℕ) (spelled : List ℕ) → count ≡ length
    (take_while (λ b. eqb b 0) bytes) → bytes ≡ spelled → drop count bytes ≡ without_leading_zeros spelled
drop-leading bytes count spelled count_is same = rw (count_is, ← same) (behind bytes)
  where
    behind : (xs : List ℕ) → drop (length (take_while (λ b. eqb b 0) xs)) xs ≡ without_leading_zeros xs
    behind [] = refl
    behind (x ∷ xs) =
        let front = take_while-cons (λ b. eqb b 0) x xs in
        elim (cases_eq x 0) [
          | inl e ↦
              let zero_first : eqb x 0 ≡ true = rw e refl in
              let taken : take_while (λ b. eqb b 0) (x ∷ xs) ≡ x ∷ take_while (λ b. eqb b 0) xs = front ∙ rw zero_first refl in
              rw (taken, without-zero x xs e) (behind xs)
          | inr n ↦
              let taken : take_while (λ b. eqb b 0) (x ∷ xs) ≡ [] = front ∙ rw (ne_eqb x 0 n) refl in
              rw (taken, without-digit x xs n) refl
        ]

-- without its leading zeros a number has its encoding
without : (bytes : List ℕ) → AreDigits bytes → IsTruncatedInteger (number_of bytes) (without_leading_zeros bytes)
without [] all = record { digits = all; minimal = λ h. h; value = refl }
without (x ∷ xs) all =
    elim (cases_eq x 0) [
      | inl e ↦
          let rest = without xs (All-tail IsDigit x xs all) in
          let number : number_of (x ∷ xs) ≡ number_of xs = rw e (omega arith) in
          rw (without-zero x xs e, number) rest
      | inr n ↦ rw (without-digit x xs n) (record { digits = all; minimal = n; value = refl })
    ]

-- eight digits, as a number of 64 bits
cells : (a b c d e f g h : ℕ) → number_of (a ∷ b ∷ c ∷ d ∷ e ∷ f ∷ g ∷ h ∷ []) ≡ from_be_bytes w64 (a ∷ b ∷ c ∷ d ∷ e ∷ f ∷ g ∷ h ∷ [])
cells a b c d e f g h = omega arith

number_of-to_be_bytes : (v : ℕ) → v < 2 ^ 64 → number_of (to_be_bytes w64 v) ≡ v
number_of-to_be_bytes v lt = cells _ _ _ _ _ _ _ _ ∙ from_be_bytes-to_be_bytes_8 v lt

digits-to_be_bytes : (v : ℕ) → AreDigits (to_be_bytes w64 v)
digits-to_be_bytes v =
    All-from_recursion IsDigit (to_be_bytes w64 v) (
      omega arith,
      (
        omega arith,
        (omega arith, (omega arith, (omega arith, (omega arith, (omega arith, (omega arith, tt)))))),
      ),
    )

-- and that is the one that is written
pub IsTruncatedInteger-truncated_bytes : (v : ℕ) → v < 2 ^ 64 → IsTruncatedInteger v (truncated_bytes v)
IsTruncatedInteger-truncated_bytes v lt =
    subst (λ (n : ℕ). IsTruncatedInteger n (truncated_bytes v)) (number_of-to_be_bytes v lt) (without (to_be_bytes w64 v) (digits-to_be_bytes v))
