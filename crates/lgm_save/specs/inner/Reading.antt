-- Reading the record that is in front.
use Rattle.std.specs.Prelude.{◌≡◌, ◌≢◌, List, ℕ, ◌++◌}
use Rattle.lgm_gossip.specs.Layout.{IsAnnounce, IsUpdate, IsNodeAnnounce}
use Rattle.lgm_gossip.specs.declared.layout.Layout.{Layout}
use Rattle.lgm_gossip.specs.declared.layout.Layout.TheVariants as layouts
use Rattle.lgm_save.specs.declared.record.Record.{Record}
use Rattle.lgm_save.specs.Records.{IsRecord, bytes_of}

-- this record is in front, and these bytes are behind it
pub record Finds (bytes : List ℕ) (record' : Record) (rest : List ℕ) : Type 0 where
  pub lawful : IsRecord record'
  pub parts : bytes ≡ bytes_of record' ++ rest

-- no record is in front
abbrev pub FindsNone : List ℕ → Type 0
FindsNone bytes = (record' : Record) (rest : List ℕ) → IsRecord record' → bytes ≢ bytes_of record' ++ rest

-- the bytes encode a message of this kind
abbrev pub IsKind : Layout → List ℕ → Type 0
IsKind layouts.Announce message = IsAnnounce message
IsKind layouts.Update message = IsUpdate message
IsKind layouts.Node message = IsNodeAnnounce message
IsKind layouts.Other message = ⊥
