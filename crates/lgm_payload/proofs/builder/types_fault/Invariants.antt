use Rattle.std.proofs.Common.{◌≡◌, drop}
use Rattle.lgm_payload.specs.Arrival.{types_fault, custom_records}
use Rattle.lgm_payload.proofs.builder.types_fault.Given as goal

abbrev pub invariant-loop-record : goal.invariant-loop-record
invariant-loop-record l =
    types_fault 65535 (custom_records l.records) ≡ types_fault l.last (custom_records (drop l.record-index l.records))
