-- The rows of a map: four ascending lists without duplicate keys.
use Rattle.std.specs.Prelude.{ℕ, ◌%◌, Bool, ◌||◌, List, [], ◌∷◌, ◌++◌, Option}
use Rattle.std.specs.Prelude.{◌==◌, ◌&&◌, nat_eq, filter, find}
use Rattle.std.specs.Bool.{beq}
use Rattle.std.specs.List.{list_any}
use Rattle.std.specs.List.Sorted.{IsStrictlySortedBy}
use Rattle.std.specs.Cmp.Lexicographic.{pointwise, slice_cmp}
use Rattle.std.specs.declared.cmp.Ordering.{Ordering}
use Rattle.std.specs.Ordering.{is_lt, is_gt, nat_cmp, bool_cmp, ordering_then}
use Rattle.lgm_wire.specs.declared.point.Point.{Point}
use Rattle.lgm_check.specs.declared.row.ChannelRow.{ChannelRow}
use Rattle.lgm_check.specs.declared.row.UpdateRow.{UpdateRow}
use Rattle.lgm_check.specs.declared.row.NodeRow.{NodeRow}

pub record Rows : Type 0 where
  -- by id
  pub channels : List ChannelRow
  -- by id, and then by direction, that from node 1 first
  pub updates : List UpdateRow
  -- by node, byte by byte
  pub nodes : List NodeRow
  -- the points of banned nodes, byte by byte
  pub banned : List Point

-- no rows
abbrev pub empty : Rows
empty = record { channels = []; updates = []; nodes = []; banned = [] }

-- the same point
abbrev pub is_point : Point → Point → Bool
is_point a b = pointwise nat_eq a.0 b.0

-- whether the update is of the direction from node 2: bit 0 of the channel flags
abbrev pub is_second : UpdateRow → Bool
is_second row = row.message.channel_flags % 2 == 1

-- ---- the orders

abbrev pub by_id : ChannelRow → ChannelRow → Ordering
by_id a b = nat_cmp a.message.short_channel_id b.message.short_channel_id

abbrev pub by_direction : UpdateRow → UpdateRow → Ordering
by_direction a b =
    ordering_then (nat_cmp a.message.short_channel_id b.message.short_channel_id)
    (bool_cmp (is_second a) (is_second b))

abbrev pub by_node : NodeRow → NodeRow → Ordering
by_node a b = slice_cmp nat_cmp a.message.node_id.0 b.message.node_id.0

abbrev pub by_point : Point → Point → Ordering
by_point a b = slice_cmp nat_cmp a.0 b.0

-- the lists ascend without duplicate keys
pub record IsAscending (rows : Rows) : Type 0 where
  pub channels : IsStrictlySortedBy by_id rows.channels
  pub updates : IsStrictlySortedBy by_direction rows.updates
  pub nodes : IsStrictlySortedBy by_node rows.nodes
  pub banned : IsStrictlySortedBy by_point rows.banned

-- with a row in its place: after those with lesser keys, before those with greater ones, instead of one with its key
abbrev pub put : {R : Type 0} → (R → R → Ordering) → List R → R → List R
put order rows row =
    filter (λ other. is_lt (order other row)) rows ++ row ∷ filter (λ other. is_gt (order other row)) rows

-- ---- looking rows up

-- the channel row with an id
abbrev pub channel_of : List ChannelRow → ℕ → Option ChannelRow
channel_of rows id = find (λ row. row.message.short_channel_id == id) rows

-- the update row with an id and a direction
abbrev pub update_of : List UpdateRow → ℕ → Bool → Option UpdateRow
update_of rows id second = find (λ row. row.message.short_channel_id == id && beq (is_second row) second) rows

-- the row of a node announcement
abbrev pub node_of : List NodeRow → Point → Option NodeRow
node_of rows node = find (λ row. is_point row.message.node_id node) rows

-- whether the node is one of the channel's
abbrev pub ends_at : Point → ChannelRow → Bool
ends_at node row = is_point row.message.node_id_1 node || is_point row.message.node_id_2 node

-- whether the node has a channel
abbrev pub ends_channel : List ChannelRow → Point → Bool
ends_channel rows node = list_any (ends_at node) rows

-- whether the node is banned
abbrev pub is_banned : List Point → Point → Bool
is_banned points node = list_any (is_point node) points

-- whether one of the channel's nodes is banned
abbrev pub ends_banned : List Point → ChannelRow → Bool
ends_banned points row = is_banned points row.message.node_id_1 || is_banned points row.message.node_id_2
