use Rattle.std.proofs.Common.{length, subst, ◌∙◌}
use Rattle.lgm_gossip.specs.IdsQuery.{Query, fields}
use Rattle.lgm_gossip.specs.QueryFlags.{flags_text}
use Rattle.lgm_gossip.specs.Spelling.{Encodes}
use Rattle.lgm_gossip.proofs.EncodeLaws.{then_whole, then_ids, says_none, says_same, says_flags, encodes}
use Rattle.lgm_gossip.proofs.ids_query.IdsQuery.encode.Goals as goal

pub returns-in_default : goal.returns-in_default
returns-in_default c =
    let m = c.self.inside in
    subst (λ (q : Query). Encodes 261 (fields q) c.join.result) c.self.view_is
    (encodes 261 c.join.result
    (then_whole 32 c.whole.result m.chain_hash.0 c.whole.ensures
    (then_ids c.in_ok-ids_len.ids_len c.as_slice.result m.ids c.as_slice.ensures c.in_ok-ids_len.ensures
    (says_same flags_text c.in_default.is (says_none flags_text))))
    (record { too_long = c.join.ensures.too_long; text = c.join.ensures.text; fits = c.join.ensures.fits }))

pub returns : goal.returns
returns c =
    let m = c.self.inside in
    subst (λ (q : Query). Encodes 261 (fields q) c.join-2.result) c.self.view_is
    (encodes 261 c.join-2.result
    (then_whole 32 c.whole.result m.chain_hash.0 c.whole.ensures
    (then_ids c.in_ok-ids_len.ids_len c.as_slice.result m.ids c.as_slice.ensures c.in_ok-ids_len.ensures
    (says_same flags_text c.in-Some.is (says_flags (length m.ids) c.from.result c.as_slice-2.result c.in-Some.flags c.as_slice-2.ensures
    (c.self.invariant c.in-Some.flags c.in-Some.is) (c.from.ensures ∙ c.in_ok-flags_len.ensures)))))
    (record { too_long = c.join-2.ensures.too_long; text = c.join-2.ensures.text; fits = c.join-2.ensures.fits }))
