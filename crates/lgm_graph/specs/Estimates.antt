-- What a payer has learnt of edges.
use Rattle.std.specs.Prelude.{◌≡◌, ℕ, ◌+◌, ◌-◌, ◌^◌, Bool, false, ◌==◌, ◌&&◌, max, min, List, [], ◌∷◌, ◌++◌}
use Rattle.std.specs.Prelude.{Option, Some, None, is_some, length, if◌then◌else◌}
use Rattle.std.specs.List.{IsDistinct}
use Rattle.std.specs.Option.{unwrap_or}
use Rattle.std.specs.Map.{keys_of, lookup}
use Rattle.lgm_wire.specs.declared.point.Point.{Point}
use Rattle.lgm_store.specs.Rows.{is_point}
use Rattle.lgm_graph.specs.declared.estimate.Estimate.{Estimate}
use Rattle.lgm_graph.specs.declared.estimate.EdgeKey.{EdgeKey}

-- what is believed of each edge of which something is known
abbrev pub Entries : Type 0
Entries = List (EdgeKey × Estimate)

-- the key has this id and node
abbrev pub is_key : ℕ → Point → EdgeKey → Bool
is_key id from key = id == key.scid && is_point from key.from

abbrev pub key_of : ℕ → Point → EdgeKey
key_of id from = record { scid = id; from = from }

-- what is known of the edge with an id out of a node, if something is: the first entry's
abbrev pub known_of : Entries → ℕ → Point → Option Estimate
known_of entries id from = lookup (is_key id from) entries

-- no two entries are of one edge
abbrev pub AreOfDistinctEdges : Entries → Type 0
AreOfDistinctEdges entries = IsDistinct (λ key other. is_key key.scid key.from other) (keys_of entries)

-- what is believed of an edge of which nothing is known
abbrev pub no_estimate : Estimate
no_estimate = record { least = 0; most = 2 ^ 64 - 1; penalty = 0 }

-- what is believed of the edge with an id out of a node
abbrev pub estimate_of : Entries → ℕ → Point → Estimate
estimate_of entries id from = unwrap_or (known_of entries id from) no_estimate

-- ---- what a try teaches

-- the edge carried an amount: it surely carries as much
abbrev pub carried : ℕ → Estimate → Estimate
carried amount estimate =
    record estimate { least = max estimate.least amount; most = max estimate.most amount }

-- the edge failed to carry an amount: it surely carries less
abbrev pub failed : ℕ → Estimate → Estimate
failed amount estimate =
    record estimate { least = min estimate.least (amount - 1); most = min estimate.most (amount - 1) }

-- ---- what changes

-- something is known of one edge, and of the others what was
pub record IsEstimated (old : Entries) (id : ℕ) (from : Point) (estimate : Estimate) (new : Entries) : Type 0 where
  pub here : known_of new id from ≡ Some estimate
  pub others : (other : EdgeKey) → is_key id from other ≡ false
      → known_of new other.scid other.from ≡ known_of old other.scid other.from
  -- it keeps its place, or it comes last
  pub places : keys_of new ≡ keys_of old ++ (if is_some (known_of old id from) then [] else key_of id from ∷ [])
  pub count : length new ≡ length old + (if is_some (known_of old id from) then 0 else 1)
  -- an edge of which nothing was known comes behind the others, which stay as they are
  pub added : known_of old id from ≡ None → new ≡ old ++ (key_of id from, estimate) ∷ []

-- nothing is known of one edge, and of the others what was
pub record IsForgotten (old : Entries) (id : ℕ) (from : Point) (new : Entries) : Type 0 where
  pub here : known_of new id from ≡ None
  pub others : (other : EdgeKey) → is_key id from other ≡ false
      → known_of new other.scid other.from ≡ known_of old other.scid other.from
  pub count : length new + (if is_some (known_of old id from) then 1 else 0) ≡ length old
