use Rattle.std.proofs.Common.{◌≡◌, take}
use Rattle.std.specs.List.{fold}
use Rattle.lgm_save.specs.Checksum.{with_byte, no_bytes}
use Rattle.lgm_save.proofs.checksum.Sums.of.Given as goal

abbrev pub invariant-loop-byte : goal.invariant-loop-byte
invariant-loop-byte l = l.sums ≡ fold with_byte no_bytes (take l.byte-index l.bytes)
