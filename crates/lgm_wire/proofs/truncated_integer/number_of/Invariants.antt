use Rattle.std.proofs.Common.{◌≡◌, ◌<◌, ◌^◌, take}
use Rattle.lgm_wire.specs.TruncatedInteger.{number_of}
use Rattle.lgm_wire.proofs.truncated_integer.number_of.Given as goal

abbrev pub invariant-loop-byte : goal.invariant-loop-byte
invariant-loop-byte l = record {
  so_far : l.number ≡ number_of (take l.byte-index l.bytes);
  small : l.number < 256 ^ l.byte-index;
}
