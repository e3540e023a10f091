use Rattle.std.proofs.Common.{ℕ, ◌*◌, ◌+◌, ◌<◌, ◌≤◌, ◌⊎◌, length}
use Rattle.lgm_hex.specs.inner.Digits.{AreValid, IsDecoded}
use Rattle.lgm_hex.proofs.decode.decode_blocks.Given as goal

-- the blocks so far are decoded, and the last 32 bytes
abbrev pub invariant-loop-i : goal.invariant-loop-i
invariant-loop-i l =
    AreValid l.seen → (k : ℕ) → (k < 32 * l.i) ⊎ (length l.out ≤ k + 32) → k < length l.out → IsDecoded l.digits l.out k
