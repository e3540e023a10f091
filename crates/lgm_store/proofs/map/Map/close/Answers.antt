use Rattle.std.proofs.Common.{◌≡◌, ℕ, List, None, true, false, sym, ◌∙◌, ap}
use Rattle.std.specs.Prelude.{is_some}
use Rattle.std.specs.Map.{lookup, remove_entry, values_of}
use Rattle.std.specs.BTreeMap.{is_at}
use Rattle.std.specs.Ordering.{nat_cmp}
use Rattle.lgm_store.specs.declared.channel_info.ChannelInfo.{ChannelInfo}
use Rattle.lgm_store.specs.inner.ChannelEntries.{channel_entries}
use Rattle.lgm_store.specs.Rows.{channel_of, ends_banned}
use Rattle.lgm_store.specs.History.{channels_without, updates_without, ended_nodes}
use Rattle.lgm_store.proofs.ListLaws.{All-filtered}
use Rattle.lgm_store.proofs.ChannelMapLaws.{ascend-stored, remove-none}
use Rattle.lgm_store.proofs.Removals.{IsClosed, closed, IsSound-unchanged}
use Rattle.lgm_store.proofs.Changes.{is_stored, without_channel-stored, without_channel-none}
use Rattle.lgm_store.proofs.SpelledRowLaws.{AllSpelled-left}
use Rattle.lgm_store.proofs.map.Opened.{opened}
use Rattle.lgm_store.proofs.map.Map.close.Goals as goal
use Rattle.lgm_store.proofs.map.Map.close.Goals.{Joined-stored-2}

-- a channel that isn't there
unchanged : (stored new : List (ℕ × ChannelInfo)) (id : ℕ) → new ≡ remove_entry (is_at (nat_cmp id)) stored
    → None ≡ lookup (is_at (nat_cmp id)) stored → new ≡ stored
unchanged stored new id left none = left ∙ remove-none (is_at (nat_cmp id)) stored (sym none)

pub invariant_of-self : goal.invariant_of-self
invariant_of-self c =
    let parts = opened c.deref_mut-parts.ensures.value c.self.invariant c.self.view_is in
    record {
      rows =
          IsSound-unchanged c.deref_mut-parts.result.now.channels c.remove.new.self c.deref_mut-parts.result.now.nodes
          c.deref_mut-parts.result.now.ends (unchanged c.deref_mut-parts.result.now.channels c.remove.new.self c.args.scid
          c.in_default.ensures.left c.in_default.ensures.value) parts.kept.rows;
      spelled =
          rw (unchanged c.deref_mut-parts.result.now.channels c.remove.new.self c.args.scid c.in_default.ensures.left
          c.in_default.ensures.value) parts.kept.spelled;
      banned_ascend = parts.kept.banned_ascend;
      allowed =
          rw (unchanged c.deref_mut-parts.result.now.channels c.remove.new.self c.args.scid c.in_default.ensures.left
          c.in_default.ensures.value) parts.kept.allowed;
    }

pub returns-in_default : goal.returns-in_default
returns-in_default c =
    let parts = opened c.deref_mut-parts.ensures.value c.self.invariant c.self.view_is in
    let stored =
    is_stored c.deref_mut-parts.result.now.channels c.args.self.now.channels c.args.scid parts.kept.rows.channels_keyed
    (ap (λ rows. rows.channels) parts.seen) in
    rw (unchanged c.deref_mut-parts.result.now.channels c.remove.new.self c.args.scid c.in_default.ensures.left
    c.in_default.ensures.value) (parts.seen ∙ without_channel-none c.args.self.now c.args.scid
    (sym stored ∙ ap is_some (sym c.in_default.ensures.value)))

-- the rows without a channel that is there
left : (c : Joined-stored-2) → IsClosed c.deref_mut-parts.result.now.channels c.remove.new.self c.deref_mut-parts.result.now.nodes
    c.drop_unless_ended-2.new.nodes c.remove-2.new.self c.args.scid
left c =
    let parts = opened c.deref_mut-parts.ensures.value c.self.invariant c.self.view_is in
    closed c.deref_mut-parts.result.now.channels c.remove.new.self c.deref_mut-parts.result.now.nodes
    c.drop_unless_ended.new.nodes c.drop_unless_ended-2.new.nodes
    c.deref_mut-parts.result.now.ends c.remove-2.new.self c.args.scid c.in-Some.stored c.node.result.now c.node-2.result.now
    c.node.ensures c.node-2.ensures
    c.remove.ensures.left (sym c.in-Some.ensures.value)
    (ascend-stored c.deref_mut-parts.result.now.channels parts.kept.rows.channels_ascend) c.remove.ensures.ascend
    c.remove-2.ensures c.drop_unless_ended.ensures.left c.drop_unless_ended-2.ensures.left
    c.drop_unless_ended-2.ensures.keyed c.drop_unless_ended-2.ensures.ascend parts.kept.rows

pub invariant_of-self-2 : goal.invariant_of-self-2
invariant_of-self-2 c =
    let parts = opened c.deref_mut-parts.ensures.value c.self.invariant c.self.view_is in
    record {
      rows = (left c).sound;
      spelled = AllSpelled-left _ _ _ _ _ _ _ _ _ (left c).channels_left (left c).updates_left (left c).nodes_left parts.kept.spelled;
      banned_ascend = parts.kept.banned_ascend;
      allowed =
          rw (left c).channels_left (All-filtered (λ row. ends_banned c.deref_mut-parts.result.now.banned row ≡ false) (λ row.
          ends_banned c.deref_mut-parts.result.now.banned row ≡ false) _ (values_of (channel_entries c.deref_mut-parts.result.now.channels))
          (λ row is allowed. allowed) parts.kept.allowed);
    }

pub returns : goal.returns
returns c =
    let parts = opened c.deref_mut-parts.ensures.value c.self.invariant c.self.view_is in
    let stored : is_some (channel_of c.args.self.now.channels c.args.scid) ≡ true =
    sym (is_stored c.deref_mut-parts.result.now.channels c.args.self.now.channels c.args.scid
    parts.kept.rows.channels_keyed (ap (λ rows. rows.channels) parts.seen))
    ∙ ap is_some (sym c.in-Some.ensures.value) in
    without_channel-stored c.args.self.now _ c.args.scid stored
    ((left c).channels_left ∙ ap (λ rows. channels_without rows.channels c.args.scid) parts.seen)
    ((left c).updates_left ∙ ap (λ rows. updates_without rows.updates c.args.scid) parts.seen)
    ((left c).nodes_left ∙ ap (λ channels. ended_nodes channels (values_of c.deref_mut-parts.result.now.nodes)) (left c).channels_left
    ∙ ap (λ rows. ended_nodes (channels_without rows.channels c.args.scid) rows.nodes) parts.seen) (ap (λ rows. rows.banned) parts.seen)
