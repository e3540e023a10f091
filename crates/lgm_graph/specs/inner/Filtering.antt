-- Which edges may be known, by a bit for each class of edges.
use Rattle.std.specs.Prelude.{◌≡◌, ◌⊎◌, ℕ, ◌+◌, ◌*◌, ◌/◌, ◌%◌, ◌^◌, true, List, length, is_some, slice_index_or}
use Rattle.std.specs.Int.{bit_at}
use Rattle.lgm_wire.specs.declared.point.Point.{Point}
use Rattle.lgm_graph.specs.Estimates.{Entries, known_of}

-- the class of the edge with an id out of a node: the block, the transaction and the node's last byte decide
abbrev pub class_of : ℕ → Point → ℕ
class_of id from = (id / 2 ^ 16 + id / 2 ^ 40 * 4099 + slice_index_or from.0 32 0 * 1031) % 262144

-- the bit of a class
abbrev pub bit_of : List ℕ → ℕ → ℕ
bit_of words class = bit_at (slice_index_or words (class / 64) 0) (class % 64)

-- there are no words yet, or one for each 64 classes
abbrev pub IsSized : List ℕ → Type 0
IsSized words = (length words ≡ 0) ⊎ (length words ≡ 4096)

-- each edge that is known has its bit
abbrev pub Covers : List ℕ → Entries → Type 0
Covers words entries = (id : ℕ) (from : Point) → is_some (known_of entries id from) ≡ true → bit_of words (class_of id from) ≡ 1
