use Rattle.std.proofs.Common.{take}
use Rattle.std.specs.List.{flat_map, zip}
use Rattle.lgm_query.specs.IdsReply.{chosen, flags_of}
use Rattle.lgm_query.specs.inner.Sent.{AreSent}
use Rattle.lgm_query.proofs.ids_reply.stored_messages.Given as goal

abbrev pub invariant-loop-place : goal.invariant-loop-place
invariant-loop-place l = AreSent (flat_map (chosen l.fn.map) (take l.place (zip l.fn.query.ids (flags_of l.fn.query)))) l.sending
