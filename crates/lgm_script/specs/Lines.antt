-- The lines of a script, and how far it was read.
use Rattle.std.specs.Prelude.{Bool, ◌≡◌, ◌≢◌, ◌⊎◌, ℕ, ◌+◌, ◌<◌, ◌≤◌, List, [], ◌∷◌, ◌++◌, Option}
use Rattle.std.specs.Prelude.{IfSome, All, length, take, drop, ◌==◌, if◌then◌else◌}
use Rattle.std.specs.Option.{option_map}
use Rattle.lgm_script.specs.Device.{IsAtEnd}

-- the byte that ends a line
abbrev pub line_feed : ℕ
line_feed = 10

abbrev pub ends_line : ℕ → Bool
ends_line byte = byte == line_feed

-- add a byte before the first line
abbrev pub onto_first : ℕ → List (List ℕ) → List (List ℕ)
onto_first byte [] = (byte ∷ []) ∷ []
onto_first byte (line ∷ lines) = (byte ∷ line) ∷ lines

-- a line ends at a line feed, which isn't part of it; a last line without one counts if it has a byte
abbrev pub lines_of : List ℕ → List (List ℕ)
lines_of [] = []
lines_of (byte ∷ bytes) = if byte == line_feed then [] ∷ lines_of bytes else onto_first byte (lines_of bytes)

-- no byte is a line feed
abbrev pub HasNoLineFeed : List ℕ → Type 0
HasNoLineFeed bytes = All (λ byte. byte ≢ line_feed) bytes

-- what was read ahead, and then what the source has left, if it specifies that
abbrev pub ahead : List ℕ → Option (List ℕ) → Option (List ℕ)
ahead buffered left = option_map (λ bytes. buffered ++ bytes) left

-- the first line has this many bytes, is within what was read ahead, and was read to its line feed or to the end
pub record IsFirstLine (buffered : List ℕ) (left : Option (List ℕ)) (len : ℕ) : Type 0 where
  pub within : len ≤ length buffered
  pub one : HasNoLineFeed (take len buffered)
  pub ends : (drop len buffered ≡ line_feed ∷ drop (len + 1) buffered)
      ⊎ ((len ≡ length buffered) × (0 < len) × IsAtEnd left)

-- there is a first line, and it is longer than that
abbrev pub IsLongerThan : ℕ → Option (List ℕ) → Type 0
IsLongerThan most input =
    IfSome input (λ bytes. (line : List ℕ) × (others : List (List ℕ)) × (lines_of bytes ≡ line ∷ others)
    × (most < length line))
