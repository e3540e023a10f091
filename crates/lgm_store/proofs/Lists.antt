-- The three lists of rows, as ordered maps store them.
use Rattle.std.proofs.Common.{◌≡◌, ℕ, Bool, true, false, not, ◌&&◌, eqb, List, refl, ap, ◌∙◌, arith}
use Rattle.std.specs.Bool.{beq}
use Rattle.std.specs.Cmp.{IsTotalOrder, bool_cmp_total}
use Rattle.std.specs.List.{filter}
use Rattle.std.specs.List.Sorted.{IsStrictlySortedBy}
use Rattle.std.specs.Map.{lookup, remove_entry, keys_of, values_of}
use Rattle.std.specs.BTreeMap.{is_at, insert_entry}
use Rattle.std.specs.declared.cmp.Ordering.{Ordering}
use Rattle.std.specs.declared.cmp.Ordering.TheVariants.{Less, Equal, Greater}
use Rattle.std.specs.Ordering.{is_eq, nat_cmp, bool_cmp, ordering_then}
use Rattle.std.proofs.lemmas.Cmp.{nat_cmp_total, nat_list_cmp_total, nat_list_eq_equiv, on_total, then_total}
use Rattle.std.proofs.lemmas.Bool.Decides.{nat_tests}
use Rattle.lgm_wire.specs.declared.point.Point.{Point}
use Rattle.lgm_check.specs.declared.row.ChannelRow.{ChannelRow}
use Rattle.lgm_check.specs.declared.row.UpdateRow.{UpdateRow}
use Rattle.lgm_check.specs.declared.row.NodeRow.{NodeRow}
use Rattle.lgm_store.specs.Keys.{IsKeyed, point_cmp, direction_cmp, point_of, direction_of, id_of}
use Rattle.lgm_store.specs.inner.SameKeys.{same_id, same_node}
use Rattle.lgm_store.specs.Rows.{put, by_id, by_direction, by_node, is_point, channel_of, update_of, node_of}
use Rattle.lgm_store.specs.History.{channels_without}
use Rattle.lgm_store.proofs.ListLaws.{filter-same, find-same}
use Rattle.lgm_store.proofs.Ordered.{lookup-find, values-insert, values-remove, IsKeyed-insert}
use Rattle.lgm_store.proofs.Points.{is_at-point}

-- ---- channels

pub id_test : (k id : ℕ) → is_eq (nat_cmp id k) ≡ eqb k id
id_test k id = grind (arith, nat_tests)

pub lookup-channel : (entries : List (ℕ × ChannelRow)) (id : ℕ) → IsKeyed id_of entries
    → lookup (is_at (nat_cmp id)) entries ≡ channel_of (values_of entries) id
lookup-channel entries id keyed =
    lookup-find nat_cmp id_of (is_at (nat_cmp id)) entries keyed ∙ find-same _ _ (λ row. id_test (id_of row) id) (values_of entries)

pub IsKeyed-channel : (entries new : List (ℕ × ChannelRow)) (id : ℕ) (row : ChannelRow) → id ≡ id_of row → new ≡ insert_entry nat_cmp entries id row
    → IsKeyed id_of entries → IsKeyed id_of new
IsKeyed-channel entries new id row own is keyed = rw (is, own) (IsKeyed-insert nat_cmp id_of row entries same_id keyed)

pub values-channel : (entries new : List (ℕ × ChannelRow)) (id : ℕ) (row : ChannelRow) → id ≡ id_of row → new ≡ insert_entry nat_cmp entries id row
    → IsKeyed id_of entries → IsStrictlySortedBy nat_cmp (keys_of entries) → values_of new ≡ put by_id (values_of entries) row
values-channel entries new id row own is keyed sorted = rw (is, own) (values-insert nat_cmp id_of nat_cmp_total row entries keyed sorted)

pub values-no_channel : (entries new : List (ℕ × ChannelRow)) (id : ℕ) → new ≡ remove_entry (is_at (nat_cmp id)) entries
    → IsKeyed id_of entries → IsStrictlySortedBy nat_cmp (keys_of entries) → values_of new ≡ channels_without (values_of entries) id
values-no_channel entries new id is keyed sorted =
    ap values_of is ∙ values-remove nat_cmp id_of nat_cmp_total id entries keyed sorted
    ∙ filter-same _ _ (λ row. ap not (id_test (id_of row) id)) (values_of entries)

-- ---- updates

pub direction_total : IsTotalOrder direction_cmp
direction_total = then_total (on_total (λ (k : ℕ × Bool). k.0) nat_cmp_total) (on_total (λ (k : ℕ × Bool). k.1) bool_cmp_total)

then_equal : (o p : Ordering) → is_eq (ordering_then o p) ≡ (is_eq o && is_eq p)
then_equal Less p = refl
then_equal Equal p = refl
then_equal Greater p = refl

bool_test : (a b : Bool) → is_eq (bool_cmp a b) ≡ beq b a
bool_test false false = refl
bool_test false true = refl
bool_test true false = refl
bool_test true true = refl

pub same_bool : (a b : Bool) → bool_cmp a b ≡ Equal → a ≡ b
same_bool false false e = refl
same_bool false true e = absurd cc
same_bool true false e = absurd cc
same_bool true true e = refl

direction_test : (k : ℕ × Bool) (id : ℕ) (second : Bool) → is_eq (direction_cmp (id, second) k) ≡ (eqb k.0 id && beq k.1 second)
direction_test k id second = then_equal (nat_cmp id k.0) (bool_cmp second k.1) ∙ rw (id_test k.0 id, bool_test second k.1) refl

same_direction : (a b : ℕ × Bool) → direction_cmp a b ≡ Equal → a ≡ b
same_direction a b e = by (nat_cmp a.0 b.0) refl e
  where
    by : (o : Ordering) → nat_cmp a.0 b.0 ≡ o → ordering_then o (bool_cmp a.1 b.1) ≡ Equal → a ≡ b
    by Less is e = absurd cc
    by Equal is e =
        let first = same_id a.0 b.0 is in
        let second = same_bool a.1 b.1 e in
        ap (λ (i : ℕ). let k : ℕ × Bool = (i, a.1) in k) first ∙ ap (λ (s : Bool). let k : ℕ × Bool = (b.0, s) in k) second
    by Greater is e = absurd cc

pub lookup-update : (entries : List ((ℕ × Bool) × UpdateRow)) (id : ℕ) (second : Bool) → IsKeyed direction_of entries
    → lookup (is_at (direction_cmp (id, second))) entries ≡ update_of (values_of entries) id second
lookup-update entries id second keyed =
    lookup-find direction_cmp direction_of (is_at (direction_cmp (id, second))) entries keyed
    ∙ find-same _ _ (λ row. direction_test (direction_of row) id second) (values_of entries)

pub IsKeyed-update : (entries new : List ((ℕ × Bool) × UpdateRow)) (k : ℕ × Bool) (row : UpdateRow)
    → k ≡ direction_of row → new ≡ insert_entry direction_cmp entries k row
    → IsKeyed direction_of entries → IsKeyed direction_of new
IsKeyed-update entries new k row own is keyed = rw (is, own) (IsKeyed-insert direction_cmp direction_of row entries same_direction keyed)

pub values-update : (entries new : List ((ℕ × Bool) × UpdateRow)) (k : ℕ × Bool) (row : UpdateRow)
    → k ≡ direction_of row → new ≡ insert_entry direction_cmp entries k row
    → IsKeyed direction_of entries → IsStrictlySortedBy direction_cmp (keys_of entries) → values_of new ≡ put by_direction (values_of entries) row
values-update entries new k row own is keyed sorted = rw (is, own) (values-insert direction_cmp direction_of direction_total row entries keyed sorted)

-- ---- nodes

pub node_total : IsTotalOrder point_cmp
node_total = on_total (λ (p : Point). p.0) nat_list_cmp_total

pub lookup-node : (entries : List (Point × NodeRow)) (node : Point) → IsKeyed point_of entries
    → lookup (is_at (point_cmp node)) entries ≡ node_of (values_of entries) node
lookup-node entries node keyed =
    lookup-find point_cmp point_of (is_at (point_cmp node)) entries keyed
    ∙ find-same _ _ (λ row. is_at-point node (point_of row) ∙ nat_list_eq_equiv.symm node.0 row.message.node_id.0) (values_of entries)

pub IsKeyed-node : (entries new : List (Point × NodeRow)) (k : Point) (row : NodeRow) → k ≡ point_of row → new ≡ insert_entry point_cmp entries k row
    → IsKeyed point_of entries → IsKeyed point_of new
IsKeyed-node entries new k row own is keyed = rw (is, own) (IsKeyed-insert point_cmp point_of row entries same_node keyed)

pub values-node : (entries new : List (Point × NodeRow)) (k : Point) (row : NodeRow) → k ≡ point_of row → new ≡ insert_entry point_cmp entries k row
    → IsKeyed point_of entries → IsStrictlySortedBy point_cmp (keys_of entries) → values_of new ≡ put by_node (values_of entries) row
values-node entries new k row own is keyed sorted = rw (is, own) (values-insert point_cmp point_of node_total row entries keyed sorted)

pub values-no_node : (entries new : List (Point × NodeRow)) (node : Point) → new ≡ remove_entry (is_at (point_cmp node)) entries
    → IsKeyed point_of entries → IsStrictlySortedBy point_cmp (keys_of entries)
    → values_of new ≡ filter (λ row. not (is_point node row.message.node_id)) (values_of entries)
values-no_node entries new node is keyed sorted =
    ap values_of is ∙ values-remove point_cmp point_of node_total node entries keyed sorted
    ∙ filter-same _ _ (λ row. ap not (is_at-point node (point_of row))) (values_of entries)
