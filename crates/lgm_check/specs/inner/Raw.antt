-- The bytes of a stored message.
use Rattle.std.specs.Prelude.{ℕ, List}
use Rattle.lgm_check.specs.declared.raw.Storage.{Storage}
use Rattle.lgm_check.specs.declared.raw.Storage.TheVariants.{Inline, Heap}

-- the bytes, wherever they are
abbrev pub bytes_in : {N : ℕ} → Storage N → List ℕ
bytes_in (Inline bytes) = bytes
bytes_in (Heap bytes) = bytes
