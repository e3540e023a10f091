use Rattle.std.proofs.Common.{◌≡◌, ◌+◌, ◌≤◌, length, take}
use Rattle.std.specs.Prelude.{vec_len, vec_capacity}
use Rattle.lgm_hex.proofs.encode.lengthen.Given as goal

abbrev pub invariant-loop-byte : goal.invariant-loop-byte
invariant-loop-byte l =
    (take (length l.fn.text.items) l.text.items ≡ l.fn.text.items)
    × (vec_len l.text ≡ vec_len l.fn.text + l._byte)
    × (vec_capacity l.fn.text ≤ vec_capacity l.text)
