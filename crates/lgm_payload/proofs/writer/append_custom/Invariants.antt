use Rattle.std.proofs.Common.{◌≡◌, ◌++◌, take}
use Rattle.std.specs.List.{flat_map}
use Rattle.lgm_wire.specs.Tlv.{record_bytes}
use Rattle.lgm_payload.specs.Arrival.{custom_records}
use Rattle.lgm_payload.proofs.writer.append_custom.Given as goal

abbrev pub invariant-loop-record : goal.invariant-loop-record
invariant-loop-record l =
    l.text.items ≡ l.initial.text.items ++ flat_map record_bytes (custom_records (take l.record-index l.custom))
