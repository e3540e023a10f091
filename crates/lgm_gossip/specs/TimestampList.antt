-- Timestamps: a byte 0, and per id four bytes for the update by node 1 and four for that by node 2.
use Rattle.std.specs.Prelude.{◌≡◌, ℕ, ◌<◌, ◌^◌, List, ◌∷◌, ◌++◌, length}
use Rattle.std.specs.List.{flat_map, AllByRecursion}
use Rattle.std.specs.Int.{w32, to_be_bytes}
use Rattle.lgm_gossip.specs.declared.timestamps.Timestamps.{Timestamps}

abbrev pub pair_bytes : Timestamps → List ℕ
pair_bytes t = to_be_bytes w32 t.node_1 ++ to_be_bytes w32 t.node_2

abbrev pub pairs_text : List Timestamps → List ℕ
pairs_text pairs = 0 ∷ flat_map pair_bytes pairs

pub record PairFits (t : Timestamps) : Type 0 where
  pub node_1 : t.node_1 < 2 ^ 32
  pub node_2 : t.node_2 < 2 ^ 32

pub record IsTimestampList (count : ℕ) (pairs : List Timestamps) (b : List ℕ) : Type 0 where
  pub fits : AllByRecursion PairFits pairs
  pub one_each : length pairs ≡ count
  pub spelled : b ≡ pairs_text pairs
