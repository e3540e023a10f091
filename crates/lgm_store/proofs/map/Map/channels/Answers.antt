use Rattle.std.proofs.Common.{true, map, ◌∙◌, ap}
use Rattle.lgm_store.specs.ChannelInfo.{stored_at}
use Rattle.lgm_store.proofs.ChannelMapLaws.{ascend-stored}
use Rattle.lgm_store.proofs.ChannelWithUpdates.{values-stored_at}
use Rattle.lgm_store.proofs.map.Opened.{opened}
use Rattle.lgm_store.proofs.map.Map.channels.Goals as goal
use Rattle.lgm_store.proofs.ListLaws.{filter-true}

pub returns : goal.returns
returns c =
    let parts = opened c.deref.ensures c.self.invariant c.self.view_is in
    let sound = parts.kept.rows in
    c.range.ensures
    ∙ values-stored_at c.deref.result.now.channels c.args.self.now sound.channels_keyed sound.updates_keyed
    (ascend-stored c.deref.result.now.channels sound.channels_ascend) (ap (λ rows. rows.channels) parts.seen)
    (ap (λ rows. rows.updates) parts.seen) (λ id. true)
    ∙ ap (map (stored_at c.args.self.now)) (filter-true c.args.self.now.channels)
