-- The checksum of a saved map.
use Rattle.std.specs.Prelude.{ℕ, ◌+◌, ◌%◌, ◌^◌, List, ◌++◌}
use Rattle.std.specs.List.{fold}
use Rattle.lgm_save.specs.Numbers.{in_eight}
use Rattle.lgm_save.specs.declared.checksum.Sums.{Sums}

-- with one more byte: the first sum is that of the bytes, and the second that of the first sums; both modulo 2^64
abbrev pub with_byte : Sums → ℕ → Sums
with_byte sums byte =
    let first = (sums.first + byte) % 2 ^ 64 in
    record { first = first; second = (sums.second + first) % 2 ^ 64 }

abbrev pub no_bytes : Sums
no_bytes = record { first = 0; second = 0 }

unfoldable pub sums_of : List ℕ → Sums
sums_of bytes = fold with_byte no_bytes bytes

-- both sums, in eight bytes each
abbrev pub in_bytes : Sums → List ℕ
in_bytes sums = in_eight sums.first ++ in_eight sums.second

abbrev pub checksum : List ℕ → List ℕ
checksum bytes = in_bytes (sums_of bytes)
