-- The limits of a script. They are numerals, so that a limit of the code that differs from them proves nothing.
use Rattle.std.specs.Prelude.{ℕ}

-- the greatest number of lines
abbrev pub most_lines : ℕ
most_lines = 10000000

-- the greatest number of bytes of a line, without its line feed
abbrev pub longest_line : ℕ
longest_line = 140000
