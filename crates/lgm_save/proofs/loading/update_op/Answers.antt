use Rattle.std.proofs.Common.{◌∙◌, ap}
use Rattle.std.proofs.lemmas.Result.{err_from_is_err_and}
use Rattle.lgm_store.specs.declared.op.Op.TheVariants.{Update}
use Rattle.lgm_save.proofs.loading.update_op.Goals as goal

pub returns-in_err-new : goal.returns-in_err-new
returns-in_err-new c =
    let p = err_from_is_err_and c.from_residual-in_err-new.result c.from_residual-in_err-new.ensures.1 in
    rw p.1 tt

pub returns : goal.returns
returns c = ap (λ row. Update row) (c.in_ok-new.ensures ∙ c.in_ok-row.ensures)
