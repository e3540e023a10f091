use Rattle.std.proofs.Common.{true, ◌≡◌, map, sym, ap, ◌∙◌, zero-add}
use Rattle.std.specs.List.{range_with_len}
use Rattle.std.proofs.lemmas.List.Elements.{All-same}
use Rattle.std.proofs.lemmas.List.FromFn.{map-range_with_len_more}
use Rattle.lgm_store.specs.Reading.{is_between}
use Rattle.lgm_query.specs.RangeReply.{range_end, ids_asked_for, timestamps_beside, reply_bytes}
use Rattle.lgm_query.proofs.RangeLaws.{All-ids_asked_for}
use Rattle.lgm_query.proofs.range_reply.answer_range.Goals as goal

pub reply-requires-clause-between : goal.reply-requires-clause-between
reply-requires-clause-between c =
    All-same (λ id. is_between id c.args.query.now.first_blocknum (range_end c.args.query.now) ≡ true)
    c.as_slice-ids.result.now (ids_asked_for c.args.chain.now c.args.map.now c.args.query.now)
    (c.as_slice-ids.ensures ∙ c.in_ok-listing.ensures.ids) (All-ids_asked_for c.args.chain.now c.args.map.now c.args.query.now)

pub loop-place-preserved : goal.loop-place-preserved
loop-place-preserved c =
    let bytes = reply_bytes c.args.map.now c.args.query.now c.as_slice-ids.result.now in
    let more = map-range_with_len_more bytes 0 c.loop-place.place c.loop-place.place (zero-add c.loop-place.place) in
    let own : c.in_ok-reply.field-0 ≡ bytes c.loop-place.place =
    c.in_ok-reply.ensures c.args.map.now
    (c.as_slice-times.ensures.value ∙ c.in_ok-listing.ensures.times ∙ ap (timestamps_beside c.args.map.now
    c.args.query.now) (sym (c.as_slice-ids.ensures ∙ c.in_ok-listing.ensures.ids))) in
    let before : c.loop-place.replies.items ≡ map bytes (range_with_len 0 c.loop-place.place) = c.loop-place.invariant in
    rw (before, c.owned.ensures, own) at c.in_ok-push.ensures.items ∙ sym more
