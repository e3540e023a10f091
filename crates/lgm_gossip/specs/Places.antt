-- Parts of bytes at offsets.
use Rattle.std.specs.Prelude.{ℕ, List, take, drop}
use Rattle.std.specs.Int.{Width, byte_len, from_be_bytes}

-- the n bytes from offset i on
abbrev pub part : ℕ → ℕ → List ℕ → List ℕ
part i n bytes = take n (drop i bytes)

-- the number of this width at offset i
abbrev pub number_in : Width → ℕ → List ℕ → ℕ
number_in w i bytes = from_be_bytes w (part i (byte_len w) bytes)
