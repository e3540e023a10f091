use Rattle.std.proofs.Common.{◌≡◌, List, map, rules, ◌∙◌, ap}
use Rattle.lgm_store.specs.declared.channel_info.ChannelInfo.{ChannelInfo}
use Rattle.lgm_store.proofs.ChannelWithUpdates.{ids-channels}
use Rattle.lgm_store.proofs.map.Map.ids_between.Goals as goal

pub loop-stored-init : goal.loop-stored-init
loop-stored-init c =
    let walk : c.into_iter-stored-iterator.result ≡ c.channels_between-stored-items.result = search rules in
    rw c.in_ok-ids.ensures.items (ap (λ (hs : List ChannelInfo).
    map (λ stored. stored.channel.message.short_channel_id) hs) (walk ∙ c.channels_between-stored-items.ensures)
    ∙ ids-channels c.args.self.now c.args.self.now.channels c.args.from c.args.to)
