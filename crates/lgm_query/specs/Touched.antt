-- The channels and nodes that operations touch.
use Rattle.std.specs.Prelude.{◌≡◌, ℕ, ◌==◌, Bool, false, List}
use Rattle.std.specs.BTreeMap.{is_at}
use Rattle.std.specs.List.{list_any}
use Rattle.std.specs.List.Sorted.{IsStrictlySortedBy}
use Rattle.std.specs.Ordering.{nat_cmp}
use Rattle.lgm_wire.specs.declared.point.Point.{Point}
use Rattle.lgm_store.specs.declared.op.Op.{Op}
use Rattle.lgm_store.specs.declared.op.Op.TheVariants as ops
use Rattle.lgm_store.specs.Rows.{is_point}
use Rattle.lgm_store.specs.Keys.{point_cmp}

-- whether the operation may add an announcement or an update to a channel
abbrev pub touches_channel : ℕ → Op → Bool
touches_channel id (ops.Channel row) = row.message.short_channel_id == id
touches_channel id (ops.Update row) = row.message.short_channel_id == id
touches_channel id _ = false

-- whether it may add an announcement to a node
abbrev pub touches_node : Point → Op → Bool
touches_node node (ops.Node row) = is_point row.message.node_id node
touches_node node _ = false

pub record Touched : Type 0 where
  pub channels : List ℕ
  pub nodes : List Point

-- these are the keys that operations touch, ascending
pub record HasTouched (history : List Op) (touched : Touched) : Type 0 where
  pub channels_ascend : IsStrictlySortedBy nat_cmp touched.channels
  pub nodes_ascend : IsStrictlySortedBy point_cmp touched.nodes
  pub of_channels : (id : ℕ)
      → list_any (is_at (nat_cmp id)) touched.channels ≡ list_any (touches_channel id) history
  pub of_nodes : (node : Point)
      → list_any (is_at (point_cmp node)) touched.nodes ≡ list_any (touches_node node) history
