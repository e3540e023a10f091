-- Decimal digits, read one after the other.
use Rattle.std.specs.Prelude.{ℕ, ◌+◌, ◌-◌, ◌*◌, ◌^◌, List, [], ◌∷◌, Option, Some}
use Rattle.std.specs.Prelude.{None, Bool, ◌&&◌, nat_le, nat_lt, if◌then◌else◌}
use Rattle.std.specs.List.{list_all}

-- the byte is a decimal digit
abbrev pub is_digit : ℕ → Bool
is_digit byte = nat_le 48 byte && nat_le byte 57

-- the number with one more digit
abbrev pub with_digit : ℕ → ℕ → ℕ
with_digit number digit = number * 10 + (digit - 48)

-- the number with further digits, most significant first
abbrev pub with_digits : ℕ → List ℕ → ℕ
with_digits number [] = number
with_digits number (digit ∷ digits) = with_digits (with_digit number digit) digits

-- the number with one more digit, if the byte is a digit and the number is below 2^64
abbrev pub further : ℕ → ℕ → Option ℕ
further number digit =
    if is_digit digit && nat_lt (with_digit number digit) (2 ^ 64)
    then Some (with_digit number digit) else None

-- the same with several
abbrev pub value_at : ℕ → List ℕ → Option ℕ
value_at number digits =
    if list_all is_digit digits && nat_lt (with_digits number digits) (2 ^ 64)
    then Some (with_digits number digits) else None
