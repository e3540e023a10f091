-- Requests one after the other, each with a text in its turn.
use Rattle.std.specs.Prelude.{ℕ, ◌+◌, List, [], ◌∷◌, ◌++◌}

module _ {S Q : Type 0} (after : S → Q → S) where
  -- what several leave
  abbrev pub behind_all : S → List Q → S
  behind_all state [] = state
  behind_all state (request ∷ asked) = behind_all (after state request) asked

  -- their texts, for the lines from this number on
  abbrev pub texts_of : (ℕ → S → Q → List ℕ) → ℕ → S → List Q → List ℕ
  texts_of text number state [] = []
  texts_of text number state (request ∷ asked) =
      text number state request ++ texts_of text (number + 1) (after state request) asked
