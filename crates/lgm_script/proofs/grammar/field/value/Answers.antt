use Rattle.std.proofs.Common.{arith, sym, ◌∙◌}
use Rattle.lgm_script.proofs.Decimals.{value_at-drop, value_at-end}
use Rattle.lgm_script.proofs.grammar.field.value.Goals as goal

pub returns-in_err-value : goal.returns-in_err-value
returns-in_err-value c =
    let none =
    value_at-drop c.loop-byte.value c.loop-byte.byte-index c.args.digits.now c.loop-byte-test.true
    (sym c.further.ensures ∙ c.in_err-value.was) in
    c.from_residual.ensures ∙ sym (c.loop-byte.invariant.goes_on ∙ none)

pub returns : goal.returns
returns c = sym (c.loop-byte.invariant.goes_on ∙ value_at-end c.loop-byte.value c.loop-byte.byte-index c.args.digits.now (omega arith) (omega arith))
