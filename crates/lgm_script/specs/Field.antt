-- The fields of a line, separated by single separators.
use Rattle.std.specs.Prelude.{ℕ, ◌^◌, List, [], Option, Some, None, ◌==◌, ◌&&◌, nat_eq, nat_lt, if◌then◌else◌}
use Rattle.std.specs.Option.{option_map}
use Rattle.std.specs.Result.{result_ok}
use Rattle.std.specs.List.{slice_split}
use Rattle.std.specs.Cmp.Lexicographic.{pointwise}
use Rattle.std.specs.Fmt.{decimal}
use Rattle.std.specs.Str.Parse.{digits_value}
use Rattle.hex.specs.Hex.{decode_sized}
use Rattle.lgm_wire.specs.declared.point.Point.{Point}

-- the ? of the grammar: the second parser, if the first returned a value
infixl 10 ◌>>=◌
abbrev pub ◌>>=◌ : {A B : Type 0} → Option A → (A → Option B) → Option B
None >>= f = None
Some x >>= f = f x

-- all fields of a text, one more than it has separators
abbrev pub fields_of : ℕ → List ℕ → List (List ℕ)
fields_of separator text = slice_split (λ byte. byte == separator) text

-- the fields of the remaining text, if there is one
abbrev pub fields_left : ℕ → Option (List ℕ) → List (List ℕ)
fields_left separator None = []
fields_left separator (Some text) = fields_of separator text

-- the number below 2^64 that has these digits
abbrev pub number_of : List ℕ → Option ℕ
number_of digits =
    let number = digits_value 10 digits in
    if nat_lt number (2 ^ 64) && pointwise nat_eq (decimal number) digits then Some number else None

-- the same below a limit
abbrev pub number_below : ℕ → List ℕ → Option ℕ
number_below limit digits = do
  number ← number_of digits
  if nat_lt number limit then Some number else None

-- the given number of bytes, each as two hexadecimal digits
abbrev pub array_of : ℕ → List ℕ → Option (List ℕ)
array_of count digits = result_ok (decode_sized digits count)

-- POINT: any 33 bytes
abbrev pub point_of : List ℕ → Option Point
point_of digits = option_map (λ bytes. record { 0 = bytes }) (array_of 33 digits)
