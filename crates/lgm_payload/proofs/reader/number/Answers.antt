use Rattle.std.proofs.Common.{refl}
use Rattle.lgm_payload.proofs.Values.{number_small}
use Rattle.lgm_payload.proofs.reader.number.Goals as goal

pub returns-in-Ok-clause-small : goal.returns-in-Ok-clause-small
returns-in-Ok-clause-small c =
    let is = (c.in-Ok.ensures.value c.in-Ok.number).0 refl in
    number_small c.args.max c.args.value.now c.in-Ok.number is.0 is.1
