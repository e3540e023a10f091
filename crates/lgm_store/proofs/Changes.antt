-- What operations do to rows, from what they do to the maps that store them.
use Rattle.std.proofs.Common.{◌≡◌, ℕ, Bool, true, false, ◌||◌, List, Option, Some, None, refl, sym, ap, ◌∙◌}
use Rattle.std.specs.Prelude.{is_some}
use Rattle.std.specs.Option.{option_map}
use Rattle.std.specs.Map.{lookup, values_of}
use Rattle.std.specs.BTreeMap.{is_at}
use Rattle.std.specs.Ordering.{nat_cmp}
use Rattle.lgm_wire.specs.declared.point.Point.{Point}
use Rattle.lgm_check.specs.declared.row.ChannelRow.{ChannelRow}
use Rattle.lgm_check.specs.declared.row.UpdateRow.{UpdateRow}
use Rattle.lgm_check.specs.declared.row.NodeRow.{NodeRow}
use Rattle.lgm_store.specs.declared.channel_info.ChannelInfo.{ChannelInfo}
use Rattle.lgm_store.specs.Keys.{IsKeyed, id_of}
use Rattle.lgm_store.specs.inner.ChannelEntries.{channel_entries}
use Rattle.lgm_store.specs.Rows.{Rows, put, by_id, by_direction, by_node, channel_of, ends_channel, is_banned, ends_banned}
use Rattle.lgm_store.specs.History.{with_channel, with_update, with_node, without_channel, channels_without, updates_without, ended_nodes}
use Rattle.lgm_store.proofs.Lists.{lookup-channel}
use Rattle.lgm_store.proofs.ChannelMapLaws.{lookup-channels}

-- whether a channel is there, by its ordered map
pub is_stored : (entries : List (ℕ × ChannelInfo)) (rows : List ChannelRow) (id : ℕ)
    → IsKeyed id_of (channel_entries entries) → values_of (channel_entries entries) ≡ rows
    → is_some (lookup (is_at (nat_cmp id)) entries) ≡ is_some (channel_of rows id)
is_stored entries rows id keyed is =
    mapped (lookup (is_at (nat_cmp id)) entries)
    ∙ ap is_some (sym (lookup-channels (is_at (nat_cmp id)) entries)
    ∙ lookup-channel (channel_entries entries) id keyed ∙ ap (λ rs. channel_of rs id) is)
  where
    mapped : (o : Option ChannelInfo) → is_some o ≡ is_some (option_map (λ stored. stored.channel) o)
    mapped None = refl
    mapped (Some stored) = refl

pub with_channel-new : (rows new : Rows) (row : ChannelRow) → is_some (channel_of rows.channels row.message.short_channel_id) ≡ false
    → ends_banned rows.banned row ≡ false
    → new.channels ≡ put by_id rows.channels row → new.updates ≡ rows.updates → new.nodes ≡ rows.nodes
    → new.banned ≡ rows.banned → new ≡ with_channel rows row
with_channel-new rows new row none allowed c u n b = rw (none, allowed, ← c, ← u, ← n, ← b) refl

-- one that is there, or has a banned node, changes nothing
pub with_channel-stored : (rows : Rows) (row : ChannelRow) → is_some (channel_of rows.channels row.message.short_channel_id) ≡ true
    → rows ≡ with_channel rows row
with_channel-stored rows row stored = rw stored refl

pub with_channel-banned : (rows : Rows) (row : ChannelRow) → ends_banned rows.banned row ≡ true → rows ≡ with_channel rows row
with_channel-banned rows row banned = by (is_some (channel_of rows.channels row.message.short_channel_id)) refl
  where
    by : (b : Bool) → is_some (channel_of rows.channels row.message.short_channel_id) ≡ b → rows ≡ with_channel rows row
    by true is = rw is refl
    by false is = rw (is, banned) refl

-- whether a node is banned, from the points of both
pub banned-by : (points : List Point) (row : ChannelRow) (first second : Point) (b : Bool) → b ≡ (is_banned points first || is_banned points second)
    → first ≡ row.message.node_id_1 → second ≡ row.message.node_id_2 → b ≡ ends_banned points row
banned-by points row first second b is first_is second_is = rw (first_is, second_is) at is

pub with_update-new : (rows new : Rows) (row : UpdateRow) → is_some (channel_of rows.channels row.message.short_channel_id) ≡ true
    → new.channels ≡ rows.channels → new.updates ≡ put by_direction rows.updates row → new.nodes ≡ rows.nodes
    → new.banned ≡ rows.banned → new ≡ with_update rows row
with_update-new rows new row stored c u n b = rw (stored, ← c, ← u, ← n, ← b) refl

pub with_update-none : (rows : Rows) (row : UpdateRow)
    → is_some (channel_of rows.channels row.message.short_channel_id) ≡ false → rows ≡ with_update rows row
with_update-none rows row none = rw none refl

pub with_node-new : (rows new : Rows) (row : NodeRow) → ends_channel rows.channels row.message.node_id ≡ true
    → new.channels ≡ rows.channels → new.updates ≡ rows.updates → new.nodes ≡ put by_node rows.nodes row
    → new.banned ≡ rows.banned → new ≡ with_node rows row
with_node-new rows new row ended c u n b = rw (ended, ← c, ← u, ← n, ← b) refl

pub without_channel-stored : (rows new : Rows) (id : ℕ) → is_some (channel_of rows.channels id) ≡ true
    → new.channels ≡ channels_without rows.channels id → new.updates ≡ updates_without rows.updates id
    → new.nodes ≡ ended_nodes (channels_without rows.channels id) rows.nodes
    → new.banned ≡ rows.banned → new ≡ without_channel rows id
without_channel-stored rows new id stored c u n b = rw (stored, ← n, ← c, ← u, ← b) refl

pub without_channel-none : (rows : Rows) (id : ℕ) → is_some (channel_of rows.channels id) ≡ false → rows ≡ without_channel rows id
without_channel-none rows id none = rw none refl
