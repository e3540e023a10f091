use Rattle.std.proofs.Common.{◌≡◌, ◌<◌, length, get_or, subst, ap, ◌∙◌}
use Rattle.std.proofs.lemmas.Grind.{get_or_default_zero}
use Rattle.lgm_gossip.specs.IdsQuery.{Query}
use Rattle.lgm_query.specs.IdsReply.{flags_of}
use Rattle.lgm_query.proofs.AskedLaws.{length-flags_of, AreSent-more, messages-all}
use Rattle.lgm_query.proofs.ids_reply.stored_messages.Goals as goal

pub loop-place-preserved : goal.loop-place-preserved
loop-place-preserved c =
    let ids = c.as_slice-scid-items.ensures ∙ ap (λ q. q.ids) c.query.view_is in
    let within : c.loop-place.place < length c.args.query.now.ids = rw ids at c.loop-place-test.true in
    let own : Query = record { chain_hash = c.query.inside.chain_hash; ids = c.query.inside.ids; flags = c.query.inside.flags } in
    let one_each : length (flags_of c.args.query.now) ≡ length c.args.query.now.ids =
    subst (λ (q : Query). length (flags_of q) ≡ length q.ids) c.query.view_is (length-flags_of own c.query.invariant) in
    let id : c.scid-item.result ≡ get_or c.args.query.now.ids c.loop-place.place c.scid-item.result =
    c.scid-item.is ∙ ap (λ xs. get_or xs c.loop-place.place c.scid-item.result) ids in
    AreSent-more c.args.map.now c.args.query.now c.loop-place.place c.scid-item.result c.flags_at.result c.loop-place.sending c.send_chosen.new.self
    within one_each (id ∙ get_or_default_zero c.args.query.now.ids c.loop-place.place c.scid-item.result within)
    c.flags_at.ensures c.loop-place.invariant c.in_ok-send_chosen.ensures

pub returns : goal.returns
returns c =
    let ids = c.as_slice-scid-items.ensures ∙ ap (λ q. q.ids) c.query.view_is in
    c.into_messages.ensures ∙ messages-all c.args.map.now c.args.query.now c.loop-place.place
    c.loop-place.sending (rw ids at c.loop-place-test.false) c.loop-place.invariant
