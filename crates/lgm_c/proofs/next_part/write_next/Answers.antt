use Rattle.std.proofs.Common.{◌≤◌, arith, rules}
use Rattle.lgm_payload.specs.Building.{onion_len}
use Rattle.lgm_c.proofs.Filling.{onion_fits}
use Rattle.lgm_c.proofs.next_part.write_next.Goals as goal

pub write_sending-requires-clause-payloads : goal.write_sending-requires-clause-payloads
write_sending-requires-clause-payloads c =
    let fits : onion_len c.in-Ok-Some.sending.payloads ≤ 1300 = search rules in
    omega (arith, onion_fits c.in-Ok-Some.sending.payloads, fits, c.requires.payloads)
