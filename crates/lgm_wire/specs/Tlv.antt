-- Encodings (the promise): a TLV stream is a sequence of records with strictly increasing types.
use Rattle.std.specs.Prelude.{◌≡◌, ℕ, ◌<◌, ◌^◌, List, [], ◌∷◌, ◌++◌, length, Option, Some, None}
use Rattle.std.specs.List.{flat_map, AllByRecursion}
use Rattle.lgm_wire.specs.BigSize.{bigsize_bytes}

-- a record: its type, here called kind, and its value
pub record TlvRecord : Type 0 where
  pub kind : ℕ
  pub value : List ℕ

-- type, length and value
abbrev pub record_bytes : TlvRecord → List ℕ
record_bytes r = bigsize_bytes r.kind ++ bigsize_bytes (length r.value) ++ r.value

-- the type and the length fit a BigSize
pub record Fits (r : TlvRecord) : Type 0 where
  pub kind : r.kind < 2 ^ 64
  pub len : length r.value < 2 ^ 64

-- the type is above the one before, if there is one
abbrev pub IsAbove : Option ℕ → ℕ → Type 0
IsAbove None kind = Unit {0}
IsAbove (Some last) kind = last < kind

-- the types are strictly increasing, the first one above the one before
abbrev pub RisesFrom : Option ℕ → List TlvRecord → Type 0
RisesFrom last [] = Unit {0}
RisesFrom last (r ∷ rs) = IsAbove last r.kind × RisesFrom (Some r.kind) rs

-- the bytes are the records one after the other, with strictly increasing types
pub record IsTlvStream (records : List TlvRecord) (bytes : List ℕ) : Type 0 where
  pub fits : AllByRecursion Fits records
  pub rises : RisesFrom None records
  pub whole : bytes ≡ flat_map record_bytes records
