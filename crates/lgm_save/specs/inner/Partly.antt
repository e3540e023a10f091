-- A map of which some records are loaded.
use Rattle.std.specs.Prelude.{◌≡◌, ℕ, List, ◌++◌, map}
use Rattle.std.specs.List.{AllByRecursion, flat_map}
use Rattle.lgm_store.specs.Rows.{Rows}
use Rattle.lgm_store.specs.History.{fold}
use Rattle.lgm_save.specs.declared.record.Record.{Record}
use Rattle.lgm_save.specs.Records.{IsRecord, bytes_of, op_of}

-- the body is the bytes of some records, whose operations leave these rows, and the rest
pub record IsPartly (body : List ℕ) (rows : Rows) (rest : List ℕ) : Type 0 where
  pub done : List Record
  pub lawful : AllByRecursion IsRecord done
  pub parts : body ≡ flat_map bytes_of done ++ rest
  pub rows_are : rows ≡ fold (map op_of done)
