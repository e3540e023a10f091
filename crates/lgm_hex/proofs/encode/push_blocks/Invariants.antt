use Rattle.std.proofs.Common.{◌≡◌, ◌+◌, ◌*◌, ◌≤◌, ◌++◌, take}
use Rattle.std.specs.Prelude.{vec_len, vec_capacity}
use Rattle.hex.specs.Hex.{encode_lower}
use Rattle.lgm_hex.proofs.encode.push_blocks.Given as goal

abbrev pub invariant-loop-i : goal.invariant-loop-i
invariant-loop-i l =
    (l.text.items ≡ l.fn.text.items ++ encode_lower (take (32 * l.i) l.bytes))
    × (vec_len l.text ≡ vec_len l.fn.text + 64 * l.i)
    × (vec_capacity l.fn.text ≤ vec_capacity l.text)
