use Rattle.std.proofs.Common.{◌∙◌, sym, ap}
use Rattle.std.proofs.lemmas.Result.{err_from_is_err_and}
use Rattle.lgm_check.specs.declared.row.Checked.TheVariants.{Update}
use Rattle.lgm_check.specs.Row.{update_row}
use Rattle.lgm_check.specs.CheckedKind.{row_of}
use Rattle.lgm_store.proofs.checked_message.copy_row.Goals as goal

pub returns-in_err-new-in-Update : goal.returns-in_err-new-in-Update
returns-in_err-new-in-Update c =
    let p = err_from_is_err_and c.from_residual-in_err-new-in-Update.result c.from_residual-in_err-new-in-Update.ensures.1 in
    rw p.1 tt

pub returns-in_ok-new-in-Update : goal.returns-in_ok-new-in-Update
returns-in_ok-new-in-Update c =
    let bytes = c.args.bytes.now in
    ap (λ row. Update row c.point.result.now) (c.in_ok-new-in-Update.ensures ∙ c.in_ok-row-in-Update.ensures)
    ∙ ap (λ signer. Update (update_row bytes) signer) c.point.ensures
    ∙ ap (λ kind. row_of kind bytes) (sym c.in-Update.is)
