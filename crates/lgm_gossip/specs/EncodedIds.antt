-- Encoded channel ids: a byte 0 and the ids one after the other. Empty bytes are an empty list.
use Rattle.std.specs.Prelude.{◌≡◌, ℕ, ◌<◌, ◌^◌, ◌⊎◌, List, [], ◌∷◌}
use Rattle.std.specs.List.{flat_map, AllByRecursion}
use Rattle.std.specs.Int.{w64, to_be_bytes}
use Rattle.lgm_gossip.specs.Fields.{Field, counted_text, Encloses}

abbrev pub ids_text : List ℕ → List ℕ
ids_text ids = 0 ∷ flat_map (to_be_bytes w64) ids

pub record IsEncodedIds (ids : List ℕ) (b : List ℕ) : Type 0 where
  pub fits : AllByRecursion (λ id. id < 2 ^ 64) ids
  pub spelled : (b ≡ ids_text ids) ⊎ ((ids ≡ []) × (b ≡ []))

-- the same as a field, which is written with the byte 0
abbrev pub encoded_ids : List ℕ → Field
encoded_ids ids = record { Is = Encloses (IsEncodedIds ids); texts = counted_text (ids_text ids) ∷ [] }
