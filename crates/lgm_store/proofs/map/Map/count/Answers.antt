use Rattle.std.proofs.Common.{ap}
use Rattle.lgm_store.specs.inner.ChannelEntries.{channel_entries, update_entries}
use Rattle.lgm_store.proofs.AscendingRowLaws.{IsAscending-sound}
use Rattle.lgm_store.proofs.map.Map.count.Goals as goal

pub returns-clause-ascend : goal.returns-clause-ascend
returns-clause-ascend c =
    IsAscending-sound (channel_entries c.self.inside.parts.value.channels) (update_entries c.self.inside.parts.value.channels)
    c.self.inside.parts.value.nodes c.self.inside.parts.value.ends c.args.self.now c.self.invariant.rows
    (rw (← ap (λ rows. rows.banned) c.self.view_is) c.self.invariant.banned_ascend)
    (ap (λ rows. rows.channels) c.self.view_is) (ap (λ rows. rows.updates) c.self.view_is) (ap (λ rows. rows.nodes) c.self.view_is)
