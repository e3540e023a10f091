use Rattle.std.proofs.Common.{◌≡◌, ◌+◌, ◌-◌, ◌*◌, ◌≤◌, ◌++◌, length, drop}
use Rattle.std.specs.Prelude.{vec_len, vec_capacity}
use Rattle.hex.specs.Hex.{encode_lower}
use Rattle.lgm_hex.proofs.encode.push_each.Given as goal

abbrev pub invariant-loop-i : goal.invariant-loop-i
invariant-loop-i l =
    (l.text.items ++ encode_lower (drop l.i l.bytes) ≡ l.fn.text.items ++ encode_lower l.bytes)
    × (vec_len l.text + 2 * (length l.bytes - l.i) ≤ vec_capacity l.text)
