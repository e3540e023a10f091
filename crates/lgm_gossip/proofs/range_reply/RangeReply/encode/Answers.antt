use Rattle.std.proofs.Common.{length, subst, ◌∙◌}
use Rattle.lgm_gossip.specs.RangeReply.{ReplyFields, fields}
use Rattle.lgm_gossip.specs.TimestampList.{pairs_text}
use Rattle.lgm_gossip.specs.Spelling.{Encodes}
use Rattle.lgm_gossip.proofs.EncodeLaws.{then_whole, then_8, then_32, then_ids, says_none, says_same, says_pairs, encodes}
use Rattle.lgm_gossip.proofs.range_reply.RangeReply.encode.Goals as goal

pub returns-in_default : goal.returns-in_default
returns-in_default c =
    let m = c.self.inside in
    subst (λ (q : ReplyFields). Encodes 264 (fields q) c.join.result) c.self.view_is
    (encodes 264 c.join.result
    (then_whole 32 c.whole.result m.chain_hash.0 c.whole.ensures
    (then_32 m.first_blocknum
    (then_32 m.number_of_blocks
    (then_8 m.sync_complete
    (then_ids c.in_ok-ids_len.ids_len c.as_slice.result m.ids c.as_slice.ensures c.in_ok-ids_len.ensures
    (says_same pairs_text c.in_default.is (says_none pairs_text)))))))
    (record { too_long = c.join.ensures.too_long; text = c.join.ensures.text; fits = c.join.ensures.fits }))

pub returns : goal.returns
returns c =
    let m = c.self.inside in
    subst (λ (q : ReplyFields). Encodes 264 (fields q) c.join-2.result) c.self.view_is
    (encodes 264 c.join-2.result
    (then_whole 32 c.whole.result m.chain_hash.0 c.whole.ensures
    (then_32 m.first_blocknum
    (then_32 m.number_of_blocks
    (then_8 m.sync_complete
    (then_ids c.in_ok-ids_len.ids_len c.as_slice.result m.ids c.as_slice.ensures c.in_ok-ids_len.ensures
    (says_same pairs_text c.in-Some.is (says_pairs (length m.ids) c.from.result c.as_slice-2.result c.in-Some.timestamps c.as_slice-2.ensures
    (c.self.invariant c.in-Some.timestamps c.in-Some.is)
    (c.from.ensures ∙ c.in_ok-pairs_len.ensures))))))))
    (record { too_long = c.join-2.ensures.too_long; text = c.join-2.ensures.text; fits = c.join-2.ensures.fits }))
