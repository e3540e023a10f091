use Rattle.std.proofs.Common.{sym, ap, ◌∙◌}
use Rattle.lgm_store.specs.declared.op.Op.TheVariants as ops
use Rattle.lgm_check.specs.Row.{update_row}
use Rattle.lgm_save.specs.Records.{op_of}
use Rattle.lgm_save.proofs.LoadLaws.{if_ok_to}
use Rattle.lgm_save.proofs.loading.op_of.Goals as goal

pub returns-in-Update : goal.returns-in-Update
returns-in-Update c =
    if_ok_to c.update_op.result (λ op is. is ∙ ap (λ bytes. ops.Update (update_row bytes)) c.as_slice-in-Update.ensures ∙ ap op_of (sym c.in-Update.is)) c.update_op.ensures
