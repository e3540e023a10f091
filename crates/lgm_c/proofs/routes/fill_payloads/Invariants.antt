use Rattle.std.proofs.Common.{◌≡◌, length, take}
use Rattle.lgm_c.specs.Routing.{all_payloads}
use Rattle.lgm_c.specs.Writing.{in_front}
use Rattle.lgm_c.proofs.routes.fill_payloads.Given as goal

-- the first payloads were written
abbrev pub invariant-loop-payload : goal.invariant-loop-payload
invariant-loop-payload l =
    record {
      count : l.filled ≡ length (all_payloads (take l.payload-index l.payloads));
      written : l.room ≡ in_front (all_payloads (take l.payload-index l.payloads)) l.initial.room;
    }
