use Rattle.std.proofs.Common.{Err, ap}
use Rattle.lgm_c.proofs.SavedMaps.{unloaded_told}
use Rattle.lgm_c.proofs.saving.loaded_map.Goals as goal

pub returns-in_err-map-clause-refused : goal.returns-in_err-map-clause-refused
returns-in_err-map-clause-refused c =
    unloaded_told c.args.chain.now c.args.bytes.now c.in_err-map.field-0.0 c.from_residual.result
    (λ e. c.in_err-map.ensures.refused (ap Err e)) c.from_residual.ensures.1
