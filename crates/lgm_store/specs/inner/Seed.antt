-- The hasher of a seed.
use Rattle.std.specs.Prelude.{ℕ, List}
use Rattle.std.specs.declared.hash.DefaultHasher.{DefaultHasher}
use Rattle.std.specs.Hash.DefaultHasher.{initial, write}

-- the hasher that has consumed these bytes
abbrev pub seeded_by : List ℕ → DefaultHasher
seeded_by bytes = write initial bytes
