-- The fields of messages: for each kind of field, which bytes encode a value, and which of those encodings is written.
use Rattle.std.specs.Prelude.{◌≡◌, ℕ, ◌<◌, ◌^◌, List, [], ◌∷◌, ◌++◌, length}
use Rattle.std.specs.Int.{Width, w16, byte_len, to_be_bytes}

-- one or more fields with their values: the bytes that encode them, and the encodings that are written, one per field
pub record Field : Type 1 where
  pub Is : List ℕ → Type 0
  pub texts : List (List ℕ)

-- the bytes b are an encoding of F followed by one of G
pub record Joined (F G : List ℕ → Type 0) (b : List ℕ) : Type 0 where
  pub front : List ℕ
  pub back : List ℕ
  pub whole : b ≡ front ++ back
  pub front_is : F front
  pub back_is : G back

-- a field, and those after it
infixr 8 ◌⌢◌
abbrev pub ◌⌢◌ : Field → Field → Field
F ⌢ G = record { Is = Joined F.Is G.Is; texts = F.texts ++ G.texts }

-- the given number of bytes
abbrev pub fixed : ℕ → List ℕ → Field
fixed n x = record { Is = λ b. (b ≡ x) × (length x ≡ n); texts = x ∷ [] }

-- a big-endian number of fixed width
abbrev pub number : Width → ℕ → Field
number w x = record { Is = λ b. (b ≡ to_be_bytes w x) × (x < 256 ^ byte_len w); texts = to_be_bytes w x ∷ [] }

-- the length in two bytes, and then the bytes
abbrev pub counted_text : List ℕ → List ℕ
counted_text x = to_be_bytes w16 (length x) ++ x

abbrev pub counted : List ℕ → Field
counted x = record { Is = λ b. (b ≡ counted_text x) × (length x < 256 ^ 2); texts = counted_text x ∷ [] }

-- all remaining bytes
abbrev pub rest : List ℕ → Field
rest x = record { Is = λ b. b ≡ x; texts = x ∷ [] }

-- all remaining bytes, which aren't kept: nothing is written
abbrev pub dropped : Field
dropped = record { Is = λ b. Unit {0}; texts = [] }

-- the length in two bytes, and then an encoding of F of that length
pub record Encloses (F : List ℕ → Type 0) (b : List ℕ) : Type 0 where
  pub text : List ℕ
  pub whole : (counted text).Is b
  pub is : F text
