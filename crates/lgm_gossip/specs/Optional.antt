-- The TLV stream after the last field, in which records of type 1 are known.
use Rattle.std.specs.Prelude.{◌≡◌, ℕ, ◌%◌, List, [], ◌∷◌, Option, Some, None, ◌==◌, if◌then◌else◌}
use Rattle.std.specs.List.{AllByRecursion}
use Rattle.lgm_gossip.specs.Streams.{TlvRecord, record_bytes, IsTlvStream}
use Rattle.lgm_gossip.specs.Fields.{Field}

-- the value of the record of type 1, if there is one
abbrev pub value_of : List TlvRecord → Option (List ℕ)
value_of [] = None
value_of (r ∷ rs) = if r.kind == 1 then Some r.value else value_of rs

-- there is a value if and only if there are bytes of it, and they encode it
abbrev pub SameOption : {A : Type 0} → (A → List ℕ → Type 0) → Option A → Option (List ℕ) → Type 0
SameOption F None None = Unit {0}
SameOption F None (Some b) = ⊥
SameOption F (Some x) None = ⊥
SameOption F (Some x) (Some b) = F x b

-- b is a stream of records of odd types, and the one of type 1 encodes x
pub record IsOptional {A : Type 0} (F : A → List ℕ → Type 0) (x : Option A) (b : List ℕ) : Type 0 where
  pub records : List TlvRecord
  pub stream : IsTlvStream records b
  pub odd : AllByRecursion (λ r. r.kind % 2 ≡ 1) records
  pub value : SameOption F x (value_of records)

-- what is written: one record of type 1 with the encoded value, or no record
abbrev pub option_text : {A : Type 0} → (A → List ℕ) → Option A → List ℕ
option_text text None = []
option_text text (Some x) = record_bytes (record { kind = 1; value = text x })

-- the same as a field: F says which bytes encode a value, and text which of those are written
abbrev pub optional : {A : Type 0} → (A → List ℕ → Type 0) → (A → List ℕ) → Option A → Field
optional F text x = record { Is = IsOptional F x; texts = option_text text x ∷ [] }
