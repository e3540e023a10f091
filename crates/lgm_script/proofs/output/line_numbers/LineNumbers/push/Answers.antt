use Rattle.std.proofs.Common.{◌++◌, ◌∷◌, [], ◌+◌, ◌/◌, ◌%◌, ℕ, List, sym, ap, ◌∙◌, append_assoc, arith}
use Rattle.std.specs.Fmt.{decimal}
use Rattle.std.proofs.lemmas.Fmt.{decimal_digit, decimal_step}
use Rattle.lgm_script.proofs.output.line_numbers.LineNumbers.push.Goals as goal
use Rattle.lgm_script.proofs.output.line_numbers.LineNumbers.push.Goals.{then-tens-gt0+in_ok-push_tens, else-tens-gt0}

pub returns-clause-ok : goal.returns-clause-ok
returns-clause-ok c =
    c.push_reserved.ensures.items ∙ ap with_last c.in_ok-reserve.ensures.items ∙ elim c.if-tens-gt0.branch [
      | then-tens-gt0+in_ok-push_tens w ↦
          ap (λ t. with_last t.items) w.text-is ∙ ap with_last w.in_ok-push_tens.ensures.ok
          ∙ append_assoc old (decimal (n / 10)) ((48 + n % 10) ∷ [])
          ∙ ap (λ (s : List ℕ). old ++ s) (sym (decimal_step n (omega (arith, w.if-tens-gt0.true)) c.ranges.number.fits))
      | else-tens-gt0 w ↦
          ap (λ t. with_last t.items) w.text-is
          ∙ ap (λ (s : List ℕ). old ++ s) (ap (λ (d : ℕ). (48 + d) ∷ []) (omega (arith, w.if-tens-gt0.false))
          ∙ sym (decimal_digit n (omega (arith, w.if-tens-gt0.false))))
    ]
  where
    n : ℕ
    n = c.args.number

    old : List ℕ
    old = c.args.text.now.items

    with_last : List ℕ → List ℕ
    with_last s = s ++ (48 + n % 10) ∷ []
