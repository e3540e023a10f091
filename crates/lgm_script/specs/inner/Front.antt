-- Prefixes of texts.
use Rattle.std.specs.Prelude.{◌≡◌, List, ℕ, ◌++◌}

-- the first text is a prefix of the second
abbrev pub IsFront : List ℕ → List ℕ → Type 0
IsFront front text = (more : List ℕ) × (text ≡ front ++ more)
