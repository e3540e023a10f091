-- A peer's reply, from the bytes of its message.
use Rattle.std.specs.Prelude.{ℕ, nat_eq, List, Result, Ok, Err, if◌then◌else◌}
use Rattle.std.specs.Cmp.Lexicographic.{pointwise}
use Rattle.lgm_wire.specs.declared.chain_hash.ChainHash.{ChainHash}
use Rattle.lgm_gossip.specs.declared.message.Message.{Message}
use Rattle.lgm_gossip.specs.declared.message.Message.TheVariants as messages
use Rattle.lgm_gossip.specs.declared.fault.DecodeFault.{DecodeFault}
use Rattle.lgm_gossip.specs.RangeReply.{ReplyFields}
use Rattle.lgm_gossip.specs.reading.MessageReading.{message_at}
use Rattle.lgm_check.specs.Refusal.{refusal_of}
use Rattle.lgm_check.specs.declared.refusal.Refusal.TheVariants as refusals
use Rattle.lgm_sync.specs.declared.reply.ReplyFault.{ReplyFault}
use Rattle.lgm_sync.specs.declared.reply.ReplyFault.TheVariants.{Refused, NotReply}

-- the reply of a message, if it is one of this chain
abbrev pub reply_in : ChainHash → Result Message DecodeFault → Result ReplyFields ReplyFault
reply_in chain (Ok (messages.RangeReply reply)) =
    if pointwise nat_eq reply.chain_hash.0 chain.0 then Ok reply else Err (Refused refusals.Chain)
reply_in chain (Ok _) = Err NotReply
reply_in chain (Err fault) = Err (Refused (refusal_of fault))

abbrev pub reply_read : ChainHash → List ℕ → Result ReplyFields ReplyFault
reply_read chain bytes = reply_in chain (message_at bytes)
