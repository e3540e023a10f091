-- Numbers of a fixed width, big-endian.
use Rattle.std.specs.Prelude.{ℕ, List}
use Rattle.std.specs.Int.{w16, w64, to_be_bytes}

unfoldable pub in_two : ℕ → List ℕ
in_two number = to_be_bytes w16 number

unfoldable pub in_eight : ℕ → List ℕ
in_eight number = to_be_bytes w64 number
