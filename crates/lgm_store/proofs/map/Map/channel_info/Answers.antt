use Rattle.std.proofs.Common.{ap, sym, ◌∙◌}
use Rattle.std.specs.Option.{option_map, option_and_then}
use Rattle.std.specs.BTreeMap.{is_at}
use Rattle.std.specs.Ordering.{nat_cmp}
use Rattle.lgm_store.specs.ChannelInfo.{update_in}
use Rattle.lgm_store.specs.inner.ChannelEntries.{channel_entries, update_entries}
use Rattle.lgm_store.specs.Rows.{channel_of, update_of}
use Rattle.lgm_store.proofs.Lists.{lookup-channel, lookup-update}
use Rattle.lgm_store.proofs.ChannelMapLaws.{ascend-stored, lookup-channels, lookup-updates}
use Rattle.lgm_store.proofs.ChannelWithUpdates.{found-is_held_at}
use Rattle.lgm_store.proofs.map.Opened.{opened}
use Rattle.lgm_store.proofs.map.Map.channel_info.Goals as goal

pub returns-clause-channel : goal.returns-clause-channel
returns-clause-channel c =
    let parts = opened c.deref.ensures c.self.invariant c.self.view_is in
    ap (option_map (λ stored. stored.channel)) c.get.ensures ∙ sym (lookup-channels (is_at (nat_cmp c.args.scid)) c.deref.result.now.channels)
    ∙ lookup-channel (channel_entries c.deref.result.now.channels) c.args.scid parts.kept.rows.channels_keyed
    ∙ ap (λ rows. channel_of rows.channels c.args.scid) parts.seen

pub returns-clause-update : goal.returns-clause-update
returns-clause-update c second =
    let parts = opened c.deref.ensures c.self.invariant c.self.view_is in
    ap (option_and_then (update_in second)) c.get.ensures ∙ sym (lookup-updates c.args.scid second
    c.deref.result.now.channels (ascend-stored c.deref.result.now.channels parts.kept.rows.channels_ascend))
    ∙ lookup-update (update_entries c.deref.result.now.channels) c.args.scid second
    parts.kept.rows.updates_keyed
    ∙ ap (λ rows. update_of rows.updates c.args.scid second) parts.seen

pub returns-clause-stored : goal.returns-clause-stored
returns-clause-stored c =
    let parts = opened c.deref.ensures c.self.invariant c.self.view_is in
    let sound = parts.kept.rows in
    c.get.ensures ∙ found-is_held_at c.deref.result.now.channels c.args.self.now c.args.scid sound.channels_keyed sound.updates_keyed
    (ascend-stored c.deref.result.now.channels sound.channels_ascend) (ap (λ rows. rows.channels) parts.seen) (ap (λ rows. rows.updates) parts.seen)
