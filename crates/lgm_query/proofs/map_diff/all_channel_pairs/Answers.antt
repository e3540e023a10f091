use Rattle.std.proofs.Common.{◌≡◌, ℕ, List, [], refl, ◌∷◌, ap, ◌∙◌}
use Rattle.std.specs.Prelude.{map}
use Rattle.std.specs.List.{flat_map}
use Rattle.lgm_store.specs.Keys.{id_of}
use Rattle.lgm_query.specs.KeyNews.{news_of_channel}
use Rattle.lgm_query.specs.inner.Pairs.{news_of_channel_pair}
use Rattle.lgm_query.proofs.PairLaws.{one_more, none_more}
use Rattle.lgm_store.specs.Rows.{Rows}
use Rattle.lgm_store.specs.ChannelInfo.{stored_at}
use Rattle.lgm_check.specs.declared.row.ChannelRow.{ChannelRow}
use Rattle.lgm_query.proofs.map_diff.all_channel_pairs.Goals as goal

ids_stored : (rows : Rows) (channels : List ChannelRow) → map (λ stored. id_of stored.channel) (map (stored_at rows) channels) ≡ map id_of channels
ids_stored rows [] = refl
ids_stored rows (row ∷ channels) = ap (λ (ids : List ℕ). id_of row ∷ ids) (ids_stored rows channels)

pub loop-stored-init : goal.loop-stored-init
loop-stored-init c = λ f asked. rw (c.new-pairs.ensures.items, c.into_iter-stored-iterator.ensures.into_iter_gives, c.channels-stored-items.ensures)
    (ap (flat_map (news_of_channel f c.args.before.now c.args.after.now)) (ids_stored c.args.after.now c.args.after.now.channels))

pub loop-stored-preserved-in-Continue-1 : goal.loop-stored-preserved-in-Continue-1
loop-stored-preserved-in-Continue-1 c = λ f asked.
    rw c.in_ok-push.ensures.items
    (one_more (news_of_channel_pair f) (news_of_channel f c.args.before.now c.args.after.now) c.loop-stored.pairs.items c.in-Some-passing.pair
    (id_of c.in-Some.stored.now.channel) (map (λ stored. id_of stored.channel) c.next.new.self)
    (rw c.scid.ensures at c.in-Some-passing.ensures f asked))
    ∙ rw c.in-Some.ensures.steps at c.loop-stored.invariant f asked

pub loop-stored-preserved : goal.loop-stored-preserved
loop-stored-preserved c = λ f asked.
    none_more (news_of_channel_pair f) (news_of_channel f c.args.before.now c.args.after.now) c.loop-stored.pairs.items
    (id_of c.in-Some.stored.now.channel) (map (λ stored. id_of stored.channel) c.next.new.self)
    (rw c.scid.ensures at c.in_default.ensures f asked)
    ∙ rw c.in-Some.ensures.steps at c.loop-stored.invariant f asked
