use Rattle.std.proofs.Common.{◌≡◌, length, take}
use Rattle.std.specs.List.{flat_map}
use Rattle.lgm_save.specs.Records.{bytes_of}
use Rattle.lgm_save.proofs.saving.body_length.Given as goal

abbrev pub invariant-loop-record : goal.invariant-loop-record
invariant-loop-record l = l.sum ≡ length (flat_map bytes_of (take l.record-index l.records))
