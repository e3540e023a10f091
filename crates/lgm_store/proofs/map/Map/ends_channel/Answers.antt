use Rattle.std.proofs.Common.{◌∙◌, ap}
use Rattle.std.specs.Map.{values_of}
use Rattle.lgm_store.specs.inner.ChannelEntries.{channel_entries}
use Rattle.lgm_store.specs.Rows.{ends_channel}
use Rattle.lgm_store.proofs.Soundness.{ends-listed}
use Rattle.lgm_store.proofs.map.Opened.{opened}
use Rattle.lgm_store.proofs.map.Map.ends_channel.Goals as goal

pub returns : goal.returns
returns c =
    let parts = opened c.deref.ensures c.self.invariant c.self.view_is in
    c.contains.ensures ∙ ends-listed c.deref.result.now.ends (values_of (channel_entries c.deref.result.now.channels))
    c.args.node.now parts.kept.rows.listed
    ∙ ap (λ rows. ends_channel rows.channels c.args.node.now) parts.seen
