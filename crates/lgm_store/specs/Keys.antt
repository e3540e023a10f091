-- The keys of rows, their orders, and ordered maps under these keys.
use Rattle.std.specs.Prelude.{◌≡◌, ℕ, Bool, List}
use Rattle.std.specs.List.{AllByRecursion}
use Rattle.std.specs.declared.cmp.Ordering.{Ordering}
use Rattle.std.specs.Ordering.{nat_cmp, bool_cmp, ordering_then}
use Rattle.lgm_wire.specs.declared.point.Point.{Point}
use Rattle.lgm_check.specs.declared.row.ChannelRow.{ChannelRow}
use Rattle.lgm_check.specs.declared.row.UpdateRow.{UpdateRow}
use Rattle.lgm_check.specs.declared.row.NodeRow.{NodeRow}
use Rattle.lgm_store.specs.Rows.{by_point, is_second}

abbrev pub id_of : ChannelRow → ℕ
id_of row = row.message.short_channel_id

abbrev pub direction_of : UpdateRow → ℕ × Bool
direction_of row = (row.message.short_channel_id, is_second row)

abbrev pub point_of : NodeRow → Point
point_of row = row.message.node_id

-- the order of channels and directions
abbrev pub direction_cmp : ℕ × Bool → ℕ × Bool → Ordering
direction_cmp a b = ordering_then (nat_cmp a.0 b.0) (bool_cmp a.1 b.1)

-- the order of points, byte by byte
abbrev pub point_cmp : Point → Point → Ordering
point_cmp a b = by_point a b

-- each row is stored under its key
abbrev pub IsKeyed : {K R : Type 0} → (R → K) → List (K × R) → Type 0
IsKeyed key entries = AllByRecursion (λ entry. entry.0 ≡ key entry.1) entries
