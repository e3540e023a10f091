-- The rows of two maps.
use Rattle.lgm_store.specs.Rows.{Rows}

-- the rows of an earlier map and of a later one
pub record TwoMaps : Type 0 where
  pub before : Rows
  pub after : Rows
