use Rattle.std.proofs.Common.{◌++◌, List, map, sym, ap, ◌∙◌}
use Rattle.std.proofs.lemmas.List.{append-nil}
use Rattle.lgm_store.specs.declared.channel_info.ChannelInfo.{ChannelInfo}
use Rattle.lgm_store.specs.ChannelInfo.{timestamps_in}
use Rattle.lgm_store.specs.inner.ChannelTable.{id_in}
use Rattle.lgm_store.proofs.ChannelWithUpdates.{ids-channels}
use Rattle.lgm_query.specs.RangeReply.{range_end}
use Rattle.lgm_query.proofs.RangeLaws.{timestamps-walked}
use Rattle.lgm_query.proofs.range_reply.with_timestamps.Goals as goal

pub returns-clause-ids : goal.returns-clause-ids
returns-clause-ids c =
    let walked = rw (c.from-from.ensures, c.range_end-to.ensures.value) at
    (c.into_iter-stored-iterator.ensures.into_iter_gives ∙ c.channels_between-stored-items.ensures) in
    let query = c.args.query.now in
    c.from_vec-ids.ensures ∙ sym (append-nil c.loop-stored.ids.items)
    ∙ ap (λ (left : List ChannelInfo). c.loop-stored.ids.items ++ map id_in left) (sym c.in-None.ensures.steps.0)
    ∙ c.loop-stored.invariant.ids ∙ ap (map id_in) walked
    ∙ ids-channels c.args.map.now c.args.map.now.channels query.first_blocknum (range_end query)

pub returns-clause-times : goal.returns-clause-times
returns-clause-times c =
    let walked = rw (c.from-from.ensures, c.range_end-to.ensures.value) at
    (c.into_iter-stored-iterator.ensures.into_iter_gives ∙ c.channels_between-stored-items.ensures) in
    let query = c.args.query.now in
    sym (append-nil c.loop-stored.times.items)
    ∙ ap (λ (left : List ChannelInfo). c.loop-stored.times.items ++ map timestamps_in left) (sym c.in-None.ensures.steps.0)
    ∙ c.loop-stored.invariant.times ∙ ap (map timestamps_in) walked
    ∙ timestamps-walked c.args.map.now query.first_blocknum (range_end query) c.args.map.now.channels
