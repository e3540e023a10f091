-- The limit of a board. It is a numeral, so that a limit of the code that differs from it proves nothing.
use Rattle.std.specs.Prelude.{ℕ}

-- the greatest number of operations that are appended
abbrev pub most_operations : ℕ
most_operations = 2000000000
