use Rattle.std.proofs.Common.{arith, inl, inr}
use Rattle.std.proofs.lemmas.Result.{err_from_is_err_and}
use Rattle.lgm_gossip.proofs.OptionalLaws.{step_on, step_fails, steps_end}
use Rattle.lgm_gossip.proofs.optional.known.Goals as goal

pub returns-in_err-value : goal.returns-in_err-value
returns-in_err-value g c =
    let p = err_from_is_err_and c.from_residual.result c.from_residual.ensures.1 in
    rw (p.1, p.2) (elim c.in_err-value.ensures [
      | inl none ↦ inl (omega (arith, c.loop-tlv-test.true), none)
      | inr fault ↦ inr (step_fails (g.T.RecordValue.value_at c.args.ids) c.loop-tlv.value c.args.records.now
          c.loop-tlv.tlv-index _ c.in_err-value.field-0.0 _ c.loop-tlv-test.true fault c.loop-tlv.invariant)
    ])

pub loop-tlv-preserved : goal.loop-tlv-preserved
loop-tlv-preserved g c =
    step_on (g.T.RecordValue.value_at c.args.ids) c.loop-tlv.value c.in_ok-value.value c.args.records.now
    c.loop-tlv.tlv-index _ _ c.loop-tlv-test.true c.in_ok-value.ensures c.loop-tlv.invariant

pub returns : goal.returns
returns g c =
    steps_end (g.T.RecordValue.value_at c.args.ids) c.loop-tlv.value c.args.records.now c.loop-tlv.tlv-index _
    c.loop-tlv-test.false c.loop-tlv.invariant
