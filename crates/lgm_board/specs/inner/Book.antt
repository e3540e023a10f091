-- The rule of the book that a board keeps for the proofs, and what its steps establish.
use Rattle.std.specs.Prelude.{ℕ, ◌≡◌, ◌==◌, true, List, [], ◌∷◌, length, MatchBool}
use Rattle.logbook.specs.Pages.{Cell, Step, View, Book, Named}
use Rattle.lgm_store.specs.declared.op.Op.{Op}
use Rattle.lgm_board.specs.Lists.{joined}

-- the first word is the number of operations; a book has two words, and the second stays 0
abbrev pub IsKept : List Cell → List (List Op) → Type 0
IsKept cells log = cells ≡ (length (joined log), true) ∷ (0, true) ∷ []

-- the word of a book
abbrev pub head_of : Book → Named
head_of b = record { tracked = true; key = 0; book = b }

-- the book is extended to the requested operations, or had reached more than expected
abbrev pub Extends : Step (List Op) → View (List Op) ℕ → ℕ → View (List Op) ℕ → Type 0
Extends s v found w = MatchBool (found == s.old) (joined w.0 ≡ s.ask) (Unit {0})
