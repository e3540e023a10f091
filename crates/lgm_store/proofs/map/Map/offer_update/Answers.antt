use Rattle.std.proofs.Common.{◌≡◌, ℕ, List, ap, subst, ◌∙◌}
use Rattle.lgm_gossip.specs.Message.{Wire}
use Rattle.lgm_gossip.specs.declared.message.Message.TheVariants as wired
use Rattle.lgm_check.specs.declared.row.UpdateRow.{UpdateRow}
use Rattle.std.specs.Option.{option_map, option_and_then}
use Rattle.std.specs.Map.{lookup}
use Rattle.std.specs.BTreeMap.{is_at}
use Rattle.std.specs.Ordering.{nat_cmp}
use Rattle.lgm_store.specs.declared.channel_info.ChannelInfo.{ChannelInfo}
use Rattle.lgm_store.specs.ChannelInfo.{update_in}
use Rattle.lgm_store.specs.Rows.{channel_of, update_of, is_second}
use Rattle.lgm_store.proofs.ChannelMapLaws.{ascend-stored}
use Rattle.lgm_store.proofs.ChannelWithUpdates.{channel_at, update_at}
use Rattle.lgm_store.proofs.Kept.{rows_of}
use Rattle.lgm_store.proofs.StoredUpdateLaws.{put-kept, put-rows}
use Rattle.lgm_store.proofs.map.Opened.{opened}
use Rattle.lgm_store.proofs.map.Map.offer_update.Goals as goal
use Rattle.lgm_store.proofs.map.Map.offer_update.Goals.{Joined-offer_update, in-Ok, in-Err}

-- the rows of the update's channel
channel_is : (c : Joined-offer_update) → channel_of c.args.self.now.channels c.args.row.message.short_channel_id
    ≡ option_map (λ h. h.channel) (lookup (is_at (nat_cmp c.args.row.message.short_channel_id)) c.deref_mut.result.now.channels)
channel_is c =
    let parts = opened c.deref_mut.ensures.value c.self.invariant c.self.view_is in
    channel_at c.deref_mut.result.now.channels c.args.self.now.channels c.args.row.message.short_channel_id
    parts.kept.rows.channels_keyed (ap (λ rows. rows.channels) parts.seen)

update_is : (c : Joined-offer_update) → update_of c.args.self.now.updates c.args.row.message.short_channel_id (is_second c.args.row)
    ≡ option_and_then (update_in (is_second c.args.row)) (lookup (is_at (nat_cmp c.args.row.message.short_channel_id)) c.deref_mut.result.now.channels)
update_is c =
    let parts = opened c.deref_mut.ensures.value c.self.invariant c.self.view_is in
    update_at c.deref_mut.result.now.channels c.args.self.now.updates c.args.row.message.short_channel_id
    (is_second c.args.row) parts.kept.rows.updates_keyed
    (ascend-stored c.deref_mut.result.now.channels parts.kept.rows.channels_ascend) (ap (λ rows. rows.updates) parts.seen)

pub invariant_of-self : goal.invariant_of-self
invariant_of-self c =
    let parts = opened c.deref_mut.ensures.value c.self.invariant c.self.view_is in
    elim c.match-offer_update.branch [
      | in-Ok w ↦ rw w.in-Ok.ensures.accepted (put-kept c.deref_mut.result.now.channels c.deref_mut.result.now.nodes
          c.deref_mut.result.now.ends c.deref_mut.result.now.banned c.args.row parts.kept
          (subst (λ (row : UpdateRow). Wire (wired.ChannelUpdate row.message) row.raw) c.get.ensures c.bytes_encode_row.ensures))
      | in-Err w ↦ rw w.in-Err.ensures.refused parts.kept
    ]

pub returns-clause-admission : goal.returns-clause-admission
returns-clause-admission c = elim c.match-offer_update.branch [
  | in-Ok w ↦ rw (w.result-is, channel_is c, update_is c) w.in-Ok.ensures.admission
  | in-Err w ↦ rw (w.result-is, channel_is c, update_is c) w.in-Err.ensures.admission
]

pub returns-clause-accepted : goal.returns-clause-accepted
returns-clause-accepted c =
    let parts = opened c.deref_mut.ensures.value c.self.invariant c.self.view_is in
    elim c.match-offer_update.branch [
      | in-Ok w ↦ rw w.result-is (ap (λ (es : List (ℕ × ChannelInfo)). rows_of es c.deref_mut.result.now.nodes c.deref_mut.result.now.banned) w.in-Ok.ensures.accepted
          ∙ put-rows c.deref_mut.result.now.channels c.deref_mut.result.now.nodes c.deref_mut.result.now.ends c.deref_mut.result.now.banned
          c.args.row parts.kept c.args.self.now parts.seen)
      | in-Err w ↦ rw w.result-is tt
    ]
