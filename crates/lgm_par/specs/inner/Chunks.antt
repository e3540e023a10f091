-- The chunks of a list.
use Rattle.std.specs.Prelude.{ℕ, ◌+◌, ◌-◌, ◌*◌, ◌/◌, ◌%◌, List, length, take, drop, min}

-- the start of a chunk, from 0: of n items in p chunks, the first n mod p have one more item
unfoldable pub piece_start : ℕ → ℕ → ℕ → ℕ
piece_start n p k = k * (n / p) + min k (n % p)

-- the items of a chunk
abbrev pub piece_of : {T : Type 0} → List T → ℕ → ℕ → List T
piece_of xs p k =
    take (piece_start (length xs) p (k + 1) - piece_start (length xs) p k)
    (drop (piece_start (length xs) p k) xs)
