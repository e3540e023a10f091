-- What loading bytes gives.
use Rattle.std.specs.Prelude.{◌≡◌, ◌≢◌, ℕ, List, map}
use Rattle.std.specs.List.{AllByRecursion}
use Rattle.lgm_wire.specs.declared.chain_hash.ChainHash.{ChainHash}
use Rattle.lgm_store.specs.Rows.{Rows}
use Rattle.lgm_store.specs.History.{fold}
use Rattle.lgm_save.specs.declared.record.Record.{Record}
use Rattle.lgm_save.specs.Records.{IsRecord, op_of}
use Rattle.lgm_save.specs.Saved.{saved_as}

-- the bytes are those of some records, and the rows what the operations of these leave
pub record IsLoaded (chain : ChainHash) (bytes : List ℕ) (rows : Rows) : Type 0 where
  pub records : List Record
  pub lawful : AllByRecursion IsRecord records
  pub bytes_are : bytes ≡ saved_as chain records
  pub rows_are : rows ≡ fold (map op_of records)

-- the bytes are those of no records
abbrev pub IsNotSaved : ChainHash → List ℕ → Type 0
IsNotSaved chain bytes = (records : List Record) → AllByRecursion IsRecord records → bytes ≢ saved_as chain records
