-- Storing an update, or a node announcement, in the maps that store rows.
use Rattle.std.proofs.Common.{◌≡◌, ℕ, true, false, List, Option, Some, None, refl, sym, ap, ◌∙◌}
use Rattle.std.specs.Prelude.{is_some}
use Rattle.std.specs.Option.{option_map}
use Rattle.std.specs.List.Sorted.{IsStrictlySortedBy}
use Rattle.std.specs.Map.{lookup, set_value, keys_of, values_of}
use Rattle.std.specs.BTreeMap.{is_at, insert_entry}
use Rattle.std.specs.Ordering.{nat_cmp}
use Rattle.lgm_wire.specs.declared.point.Point.{Point}
use Rattle.lgm_gossip.specs.Message.{Wire}
use Rattle.lgm_gossip.specs.declared.message.Message.TheVariants as wired
use Rattle.lgm_check.specs.declared.row.UpdateRow.{UpdateRow}
use Rattle.lgm_check.specs.declared.row.NodeRow.{NodeRow}
use Rattle.lgm_store.specs.declared.channel_info.ChannelInfo.{ChannelInfo}
use Rattle.lgm_store.specs.inner.ChannelEntries.{with_update_in, channel_entries, update_entries}
use Rattle.lgm_store.specs.inner.ChannelTable.{with_update_for, with_update_at}
use Rattle.lgm_store.specs.Keys.{point_cmp, point_of}
use Rattle.lgm_store.specs.Rows.{Rows, put, by_direction, by_node, channel_of, ends_channel, is_second}
use Rattle.lgm_store.specs.History.{with_update, with_node}
use Rattle.lgm_store.specs.inner.Sound.{IsKept}
use Rattle.lgm_store.proofs.Lists.{values-update, values-node}
use Rattle.lgm_store.proofs.ChannelMapLaws.{ascend-stored, channel-with, set-channels, set-updates}
use Rattle.lgm_store.proofs.ChannelWithUpdates.{channel_at}
use Rattle.lgm_store.proofs.Soundness.{IsSound-put, IsSound-node}
use Rattle.lgm_store.proofs.Changes.{with_update-new, with_update-none, with_node-new}
use Rattle.lgm_store.proofs.Kept.{rows_of}
use Rattle.lgm_store.proofs.SpelledRowLaws.{AllSpelled-update, AllSpelled-node}

module _ (stored : List (ℕ × ChannelInfo)) (nodes : List (Point × NodeRow)) (ends : List (Point × List ℕ)) (banned : List Point) (row : UpdateRow)
    (kept : IsKept (channel_entries stored) (update_entries stored) nodes ends banned) where
  abbrev id : ℕ
  id = row.message.short_channel_id

  abbrev written : ChannelInfo → List (ℕ × ChannelInfo)
  written old = set_value (is_at (nat_cmp id)) stored (with_update_in (is_second row) old row)

  same_channels : (old : ChannelInfo) → lookup (is_at (nat_cmp id)) stored ≡ Some old → channel_entries (written old) ≡ channel_entries stored
  same_channels old found =
      set-channels (is_at (nat_cmp id)) stored old (with_update_in (is_second row) old row) found
      (channel-with (is_second row) old row)

  -- the updates with it in its place
  put_in : (old : ChannelInfo) → lookup (is_at (nat_cmp id)) stored ≡ Some old
      → values_of (update_entries (written old)) ≡ put by_direction (values_of (update_entries stored)) row
  put_in old found =
      values-update (update_entries stored) (update_entries (written old)) (id, is_second row) row refl
      (set-updates id (is_second row) row stored old (ascend-stored stored kept.rows.channels_ascend) found)
      kept.rows.updates_keyed kept.rows.updates_ascend

  pub put-kept : Wire (wired.ChannelUpdate row.message) row.raw → IsKept (channel_entries (with_update_at stored row)) (update_entries (with_update_at stored row)) nodes ends banned
  put-kept own = by (lookup (is_at (nat_cmp id)) stored) refl
    where
      by : (o : Option ChannelInfo) → lookup (is_at (nat_cmp id)) stored ≡ o → IsKept (channel_entries
          (with_update_for o stored row)) (update_entries (with_update_for o stored row)) nodes ends banned
      by None found = kept
      by (Some old) found =
          let same = same_channels old found in
          let ascend : IsStrictlySortedBy nat_cmp (keys_of (written old)) = ascend-stored (written old) (rw same kept.rows.channels_ascend) in
          record {
            rows =
                IsSound-put stored (written old) nodes ends id (is_second row) row old refl found refl
                (ascend-stored stored kept.rows.channels_ascend) ascend kept.rows;
            spelled =
                AllSpelled-update (values_of (channel_entries stored)) (values_of (channel_entries (written old)))
                (values_of (update_entries stored)) (values_of (update_entries (written old))) (values_of nodes) row own
                (put_in old found) (ap values_of same) kept.spelled;
            banned_ascend = kept.banned_ascend;
            allowed = rw same kept.allowed;
          }

  pub put-rows : (rows : Rows) → rows_of stored nodes banned ≡ rows → rows_of (with_update_at stored row) nodes banned ≡ with_update rows row
  put-rows rows view_is = by (lookup (is_at (nat_cmp id)) stored) refl
    where
      channel_is : channel_of rows.channels id ≡ option_map (λ h. h.channel) (lookup (is_at (nat_cmp id)) stored)
      channel_is = channel_at stored rows.channels id kept.rows.channels_keyed (ap (λ rs. rs.channels) view_is)

      by : (o : Option ChannelInfo) → lookup (is_at (nat_cmp id)) stored ≡ o → rows_of (with_update_for o stored row) nodes banned ≡ with_update rows row
      by None found =
          let none : is_some (channel_of rows.channels id) ≡ false =
          ap is_some channel_is ∙ ap (λ o. is_some (option_map (λ h. h.channel) o)) found in
          view_is ∙ with_update-none rows row none
      by (Some old) found =
          with_update-new rows (rows_of (written old) nodes banned) row
          (ap is_some channel_is ∙ ap (λ o. is_some (option_map (λ h. h.channel) o)) found)
          (ap values_of (same_channels old found) ∙ ap (λ rs. rs.channels) view_is)
          (put_in old found ∙ ap (λ rs. put by_direction rs.updates row) view_is)
          (ap (λ rs. rs.nodes) view_is) (ap (λ rs. rs.banned) view_is)

-- an update in its place
pub put-is : (entries : List (ℕ × ChannelInfo)) (row : UpdateRow) (id : ℕ) (stored written : ChannelInfo) → id ≡ row.message.short_channel_id
    → lookup (is_at (nat_cmp id)) entries ≡ Some stored → written ≡ with_update_in (is_second row) stored row
    → set_value (is_at (nat_cmp id)) entries written ≡ with_update_at entries row
put-is entries row id stored written id_is found is =
    ap (set_value (is_at (nat_cmp id)) entries) is ∙ ap (λ (i : ℕ).
    set_value (is_at (nat_cmp i)) entries (with_update_in (is_second row) stored row)) id_is
    ∙ ap (λ o. with_update_for o entries row) (sym (ap (λ (i : ℕ). lookup (is_at (nat_cmp i)) entries) (sym id_is) ∙ found))

-- ---- storing a node announcement

module _ (stored : List (ℕ × ChannelInfo)) (nodes new : List (Point × NodeRow)) (ends : List (Point × List ℕ)) (banned : List Point) (row : NodeRow)
    (kept : IsKept (channel_entries stored) (update_entries stored) nodes ends banned)
    (is : new ≡ insert_entry point_cmp nodes (point_of row) row) (ascend : IsStrictlySortedBy point_cmp (keys_of new)) where
  node_in : values_of new ≡ put by_node (values_of nodes) row
  node_in = values-node nodes new (point_of row) row refl is kept.rows.nodes_keyed kept.rows.nodes_ascend

  pub node-kept : Wire (wired.NodeAnnounce row.message) row.raw → ends_channel (values_of (channel_entries stored)) (point_of row) ≡ true
      → IsKept (channel_entries stored) (update_entries stored) new ends banned
  node-kept own ended = record {
    rows =
        IsSound-node (channel_entries stored) (update_entries stored) nodes new ends (point_of row) row refl is ascend
        ended kept.rows;
    spelled =
        AllSpelled-node (values_of (channel_entries stored)) (values_of (update_entries stored)) (values_of nodes)
        (values_of new) row own node_in kept.spelled;
    banned_ascend = kept.banned_ascend;
    allowed = kept.allowed;
  }

  pub node-rows : (rows : Rows) → rows_of stored nodes banned ≡ rows → ends_channel rows.channels (point_of row) ≡ true
      → rows_of stored new banned ≡ with_node rows row
  node-rows rows view_is ended =
      with_node-new rows (rows_of stored new banned) row ended (ap (λ rs. rs.channels) view_is)
      (ap (λ rs. rs.updates) view_is) (node_in ∙ ap (λ rs. put by_node rs.nodes row) view_is)
      (ap (λ rs. rs.banned) view_is)
