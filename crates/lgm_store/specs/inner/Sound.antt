-- The invariant of the ordered maps that store rows.
use Rattle.std.specs.Prelude.{◌≡◌, ℕ, Bool, true, false, List}
use Rattle.std.specs.List.{AllByRecursion}
use Rattle.std.specs.List.Sorted.{IsStrictlySortedBy}
use Rattle.std.specs.Map.{keys_of, values_of}
use Rattle.std.specs.Ordering.{nat_cmp}
use Rattle.lgm_wire.specs.declared.point.Point.{Point}
use Rattle.lgm_check.specs.declared.row.ChannelRow.{ChannelRow}
use Rattle.lgm_check.specs.declared.row.UpdateRow.{UpdateRow}
use Rattle.lgm_check.specs.declared.row.NodeRow.{NodeRow}
use Rattle.lgm_store.specs.Rows.{ends_channel, ends_banned}
use Rattle.lgm_store.specs.Keys.{IsKeyed, id_of, direction_of, point_of, direction_cmp, point_cmp}
use Rattle.lgm_store.specs.Reading.{ids_at}
use Rattle.lgm_store.specs.Spelled.{AllSpelled}
use Rattle.lgm_store.specs.inner.ChannelsByNode.{Lists}

-- each node has a channel
abbrev pub AreEnded : List ChannelRow → List NodeRow → Type 0
AreEnded channels nodes = AllByRecursion (λ row. ends_channel channels row.message.node_id ≡ true) nodes

-- rows are stored under their keys: by id, by id and direction, by point; and the index has each node's channels
pub record IsSound (channels : List (ℕ × ChannelRow)) (updates : List ((ℕ × Bool) × UpdateRow))
    (nodes : List (Point × NodeRow)) (ends : List (Point × List ℕ)) : Type 0 where
  pub channels_keyed : IsKeyed id_of channels
  pub updates_keyed : IsKeyed direction_of updates
  pub nodes_keyed : IsKeyed point_of nodes
  pub channels_ascend : IsStrictlySortedBy nat_cmp (keys_of channels)
  pub updates_ascend : IsStrictlySortedBy direction_cmp (keys_of updates)
  pub nodes_ascend : IsStrictlySortedBy point_cmp (keys_of nodes)
  pub nodes_ended : AreEnded (values_of channels) (values_of nodes)
  pub listed : Lists ends (ids_at (values_of channels))

-- no channel has a banned node
abbrev pub AreAllowed : List Point → List ChannelRow → Type 0
AreAllowed banned channels = AllByRecursion (λ row. ends_banned banned row ≡ false) channels

-- and the bytes of each row encode it, the banned points ascend, and no channel has a banned node
pub record IsKept (channels : List (ℕ × ChannelRow)) (updates : List ((ℕ × Bool) × UpdateRow))
    (nodes : List (Point × NodeRow)) (ends : List (Point × List ℕ)) (banned : List Point) : Type 0 where
  pub rows : IsSound channels updates nodes ends
  pub spelled : AllSpelled (values_of channels) (values_of updates) (values_of nodes)
  pub banned_ascend : IsStrictlySortedBy point_cmp banned
  pub allowed : AreAllowed banned (values_of channels)
