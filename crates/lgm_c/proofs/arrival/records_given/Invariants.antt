use Rattle.std.proofs.Common.{◌≡◌, take}
use Rattle.lgm_payload.specs.Arrival.{custom_records}
use Rattle.lgm_c.specs.Arrivals.{records_given}
use Rattle.lgm_c.proofs.arrival.records_given.Given as goal

-- the first records were copied
abbrev pub invariant-loop-record : goal.invariant-loop-record
invariant-loop-record l = custom_records l.given.items ≡ records_given (take l.record-index l.records)
