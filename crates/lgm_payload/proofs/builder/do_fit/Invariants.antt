use Rattle.std.proofs.Common.{◌≡◌, ◌+◌, take}
use Rattle.lgm_payload.specs.Building.{onion_len}
use Rattle.lgm_payload.proofs.builder.do_fit.Given as goal

abbrev pub invariant-loop-payload : goal.invariant-loop-payload
invariant-loop-payload l = onion_len (take l.payload-index l.payloads) + l.room ≡ 1300
