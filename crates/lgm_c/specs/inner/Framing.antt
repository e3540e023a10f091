-- What writing an answer may do.
use Rattle.std.specs.Prelude.{◌≡◌, ◌⊎◌, ℕ, List}
use Rattle.lgm_c.specs.Status.{no_memory}
use Rattle.lgm_c.specs.Writing.{Buffer, IsWritten}

-- bytes were written, or their length alone, or the call ran out of memory and changed nothing
abbrev pub MayWrite : List ℕ → ℕ → Buffer → Buffer → Type 0
MayWrite bytes status old new = IsWritten bytes status old new ⊎ ((status ≡ no_memory) × (new ≡ old))
