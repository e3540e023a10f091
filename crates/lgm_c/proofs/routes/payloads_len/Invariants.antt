use Rattle.std.proofs.Common.{◌≡◌, length, take}
use Rattle.lgm_c.specs.Routing.{all_payloads}
use Rattle.lgm_c.proofs.routes.payloads_len.Given as goal

-- the bytes of the first payloads were counted
abbrev pub invariant-loop-payload : goal.invariant-loop-payload
invariant-loop-payload l = l.count ≡ length (all_payloads (take l.payload-index l.payloads))
