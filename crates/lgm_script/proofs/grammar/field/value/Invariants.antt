use Rattle.std.proofs.Common.{◌≡◌, ◌<◌, ◌^◌, drop}
use Rattle.lgm_script.specs.inner.Digits.{value_at}
use Rattle.lgm_script.proofs.grammar.field.value.Given as goal

-- the remaining digits continue the number so far
abbrev pub invariant-loop-byte : goal.invariant-loop-byte
invariant-loop-byte l = record {
  goes_on : value_at 0 l.digits ≡ value_at l.value (drop l.byte-index l.digits);
  small : l.value < 2 ^ 64;
}
