-- Query flags: a byte 0, and one BigSize per id.
use Rattle.std.specs.Prelude.{◌≡◌, ℕ, ◌<◌, ◌^◌, List, ◌∷◌, length}
use Rattle.std.specs.List.{flat_map, AllByRecursion}
use Rattle.lgm_gossip.specs.Streams.{bigsize_bytes}

abbrev pub flags_text : List ℕ → List ℕ
flags_text flags = 0 ∷ flat_map bigsize_bytes flags

pub record IsQueryFlags (count : ℕ) (flags : List ℕ) (b : List ℕ) : Type 0 where
  pub fits : AllByRecursion (λ f. f < 2 ^ 64) flags
  pub one_each : length flags ≡ count
  pub spelled : b ≡ flags_text flags
