use Rattle.std.proofs.Common.{arith}
use Rattle.lgm_payload.proofs.PayloadLaws.{text_found, text_other, text_none}
use Rattle.lgm_payload.proofs.reader.text.Goals as goal
use Rattle.lgm_payload.proofs.reader.text.Goals.{in_default-via-in-Ok+else-len-bytes, in_default-via-in_default}

pub returns-in-Ok : goal.returns-in-Ok
returns-in-Ok c =
    text_found c.args.bytes.now c.in-Ok.len c.in-Ok.front c.split_at.result.1.now c.in-Ok.ensures.value
    c.if-len-bytes.true c.split_at.ensures.back

pub returns-in_default : goal.returns-in_default
returns-in_default c = elim c.in_default.branch [
  | in_default-via-in-Ok+else-len-bytes w ↦ text_other c.args.bytes.now w.in-Ok.len w.in-Ok.front w.in-Ok.ensures.value w.if-len-bytes.false
  | in_default-via-in_default w ↦ text_none c.args.bytes.now c.read_bigsize.result w.in_default.field-0
      (λ i. omega (arith, c.type_inv.bytes i)) w.in_default.is c.read_bigsize.ensures.value
]
