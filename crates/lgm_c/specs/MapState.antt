-- The state of an open handle.
use Rattle.std.specs.Prelude.{ℕ, ◌+◌, ◌-◌, ◌^◌, min, Bool, true, false, List, Option}
use Rattle.lgm_wire.specs.declared.chain_hash.ChainHash.{ChainHash}
use Rattle.lgm_store.specs.Rows.{Rows, empty}

pub record MapState : Type 0 where
  -- whether it was published, so that it never changes
  pub is_published : Bool
  pub chain : ChainHash
  -- the known feature bits of nodes, or none if all are known
  pub known : Option (List ℕ)
  pub rows : Rows
  -- how many messages and closes were accepted since it was opened
  pub version : ℕ
  -- the rows at the mark, before the first mark those with which it was opened; empty in a published map
  pub marked : Rows

-- a map that is opened with these rows
abbrev pub begun : List ℕ → Option (List ℕ) → Rows → MapState
begun chain known rows = record {
  is_published = false;
  chain = record { 0 = chain };
  known = known;
  rows = rows;
  version = 0;
  marked = rows;
}

-- a new map
abbrev pub opened : List ℕ → Option (List ℕ) → MapState
opened chain known = begun chain known empty

-- a map as it is now, for good
abbrev pub published : MapState → MapState
published state = record state { is_published = true; marked = empty }

-- the version behind this one; there is none behind the greatest number of 64 bits
abbrev pub next_version : ℕ → ℕ
next_version version = min (version + 1) (2 ^ 64 - 1)
