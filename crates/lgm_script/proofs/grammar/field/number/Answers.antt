use Rattle.std.proofs.Common.{◌≡◌, get_or, length, sym, ◌∙◌, arith}
use Rattle.lgm_script.proofs.Decimals.{empty_none, zero_none, value_is}
use Rattle.lgm_script.proofs.grammar.field.number.Goals as goal
use Rattle.lgm_script.proofs.grammar.field.number.Goals.{else-first-eq48-via-then-first-eq48+else-digits-gt1, else-first-eq48-via-else-first-eq48}

pub returns-in_err-first : goal.returns-in_err-first
returns-in_err-first c = c.from_residual.ensures ∙ sym (empty_none c.args.digits.now c.in_err-first.ensures.item.3)

pub returns-then-digits-gt1 : goal.returns-then-digits-gt1
returns-then-digits-gt1 c =
    let some = c.in_ok-first.ensures.item.3 in
    sym (zero_none c.args.digits.now c.if-digits-gt1.true (sym (some.1 0) ∙ c.if-first-eq48.true))

pub returns : goal.returns
returns c =
    let some = c.in_ok-first.ensures.item.3 in
    let alone : get_or c.args.digits.now 0 0 ≡ 48 → length c.args.digits.now ≡ 1 = λ e.
    elim c.else-first-eq48.branch [
      | else-first-eq48-via-then-first-eq48+else-digits-gt1 w ↦ omega (arith, some.0, w.if-digits-gt1.false)
      | else-first-eq48-via-else-first-eq48 w ↦ absurd (w.if-first-eq48.false (some.1 0 ∙ e))
    ] in
    c.value.ensures ∙ value_is c.args.digits.now some.0 alone
