use Rattle.std.proofs.Common.{◌≡◌, ◌-◌, ◌++◌, length, take, drop, ◌∙◌, ap, sym, List, ℕ}
use Rattle.std.proofs.lemmas.List.{take_rest}
use Rattle.std.specs.Int.{w64, to_be_bytes}
use Rattle.lgm_wire.specs.TruncatedInteger.{truncated_bytes}
use Rattle.lgm_wire.proofs.TruncatedIntegerLaws.{drop-leading}
use Rattle.lgm_wire.proofs.truncated_integer.write_tu.Goals as goal

pub returns-clause-ok : goal.returns-clause-ok
returns-clause-ok c =
    let digits = c.to_be_bytes-digits.result in
    let zeros = c.leading_zeros-zeros.result in
    let len : length digits ≡ 8 = ap length c.to_be_bytes-digits.ensures in
    let tail : take (8 - zeros) (drop zeros digits) ≡ drop zeros digits =
    ap (λ (n : ℕ). take (n - zeros) (drop zeros digits)) (sym len) ∙ take_rest digits zeros in
    let spelled : drop zeros digits ≡ truncated_bytes c.args.value =
    drop-leading digits zeros (to_be_bytes w64 c.args.value) c.leading_zeros-zeros.ensures
    c.to_be_bytes-digits.ensures in
    c.in_ok-extend_from_slice.ensures.items ∙ ap (λ (s : List ℕ). c.args.out.now.items ++ s) (tail ∙ spelled)
