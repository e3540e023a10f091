use Rattle.std.proofs.lemmas.Result.{err_from_is_err_and}
use Rattle.lgm_payload.proofs.Records.{told_more}
use Rattle.lgm_payload.proofs.PayloadLaws.{told_fails}
use Rattle.lgm_payload.proofs.reader.told.Goals as goal

pub loop-tlv-preserved : goal.loop-tlv-preserved
loop-tlv-preserved c =
    told_more c.args.records.now c.loop-tlv.tlv-index _ c.loop-tlv.known c.add_value.new.known c.loop-tlv-test.true
    c.loop-tlv.invariant c.in_ok-add_value.ensures.0 c.in_ok-add_value.ensures.1

pub returns-in_err-add_value : goal.returns-in_err-add_value
returns-in_err-add_value c =
    let p = err_from_is_err_and c.from_residual.result c.from_residual.ensures.1 in
    rw (p.1, p.2) (told_fails c.args.records.now c.loop-tlv.tlv-index _ c.loop-tlv.known
    c.in_err-add_value.field-0.0 c.loop-tlv-test.true c.loop-tlv.invariant c.in_err-add_value.ensures)
