-- Encodings (the promise): a truncated integer is a number in base 256, big-endian, without leading
-- zeros. So zero has no bytes.
use Rattle.std.specs.Prelude.{◌≡◌, ℕ, ◌+◌, ◌*◌, ◌^◌, ◌<◌, All, List, [], ◌∷◌, length, ◌==◌, if◌then◌else◌}
use Rattle.std.specs.Int.{w64, to_be_bytes}

-- the number of these digits in base 256, big-endian
abbrev pub number_of : List ℕ → ℕ
number_of [] = 0
number_of (digit ∷ digits) = digit * 256 ^ length digits + number_of digits

abbrev pub StartsWithZero : List ℕ → Type 0
StartsWithZero [] = ⊥
StartsWithZero (digit ∷ digits) = digit ≡ 0

-- the bytes have no leading zero, and are the number in base 256
pub record IsTruncatedInteger (number : ℕ) (bytes : List ℕ) : Type 0 where
  pub digits : All (λ digit. digit < 256) bytes
  pub minimal : ¬ StartsWithZero bytes
  pub value : number ≡ number_of bytes

abbrev pub without_leading_zeros : List ℕ → List ℕ
without_leading_zeros [] = []
without_leading_zeros (digit ∷ digits) =
    if digit == 0 then without_leading_zeros digits else digit ∷ digits

-- the truncated integer that encodes a number below 2 ^ 64
abbrev pub truncated_bytes : ℕ → List ℕ
truncated_bytes number = without_leading_zeros (to_be_bytes w64 number)
