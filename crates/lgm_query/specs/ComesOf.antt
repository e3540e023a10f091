-- A map that was made from an earlier one by operations.
use Rattle.std.specs.Prelude.{◌≡◌, List}
use Rattle.lgm_store.specs.declared.op.Op.{Op}
use Rattle.lgm_store.specs.Rows.{Rows}
use Rattle.lgm_store.specs.History.{fold_from}
use Rattle.lgm_query.specs.Touched.{Touched, HasTouched}

-- the later rows are the earlier ones after operations that touch these keys
pub record ComesOf (before after : Rows) (touched : Touched) : Type 0 where
  pub history : List Op
  pub folds : after ≡ fold_from before history
  pub touches : HasTouched history touched
