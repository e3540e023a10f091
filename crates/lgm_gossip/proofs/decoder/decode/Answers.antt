use Rattle.std.proofs.Common.{arith}
use Rattle.lgm_gossip.specs.reading.MessageReading.{message_at}
use Rattle.lgm_gossip.proofs.MemoryLaws.{gives, sees_or}
use Rattle.lgm_gossip.proofs.MessageLaws.{is_found, is_only}
use Rattle.lgm_gossip.proofs.decoder.decode.Goals as goal

pub returns-clause-found : goal.returns-clause-found
returns-clause-found c =
    is_found c.args.bytes.now c.message.result (λ i. omega (arith, c.type_inv.bytes i))
    (gives _ _ _ c.message.result (message_at c.args.bytes.now) c.message.ensures)

pub returns-clause-only : goal.returns-clause-only
returns-clause-only c =
    λ m wire. is_only c.args.bytes.now c.message.result m
    (gives _ _ _ c.message.result (message_at c.args.bytes.now) c.message.ensures) wire

pub returns-clause-exact : goal.returns-clause-exact
returns-clause-exact c = gives _ _ _ c.message.result (message_at c.args.bytes.now) c.message.ensures

pub returns-clause-memory : goal.returns-clause-memory
returns-clause-memory c = sees_or _ _ _ c.message.result (message_at c.args.bytes.now) c.message.ensures
