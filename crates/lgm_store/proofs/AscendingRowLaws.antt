-- Rows that ascend.
use Rattle.std.proofs.Common.{◌≡◌, ℕ, Bool, true, false, cond, List, [], ◌∷◌, ◌++◌, refl, sym, ap, ◌∙◌}
use Rattle.std.specs.Prelude.{is_some, ◌||◌, if◌then◌else◌}
use Rattle.std.specs.List.{AllByRecursion, filter}
use Rattle.std.specs.List.Sorted.{IsStrictlySortedBy}
use Rattle.std.specs.Map.{keys_of, values_of}
use Rattle.std.specs.Cmp.{IsTotalOrder}
use Rattle.std.specs.declared.cmp.Ordering.{Ordering}
use Rattle.std.specs.declared.cmp.Ordering.TheVariants.{Less, Equal, Greater}
use Rattle.std.specs.Ordering.{is_lt, is_gt, nat_cmp, ordering_reverse}
use Rattle.std.proofs.lemmas.Cmp.{nat_cmp_total, on_total}
use Rattle.lgm_wire.specs.declared.point.Point.{Point}
use Rattle.lgm_check.specs.declared.row.ChannelRow.{ChannelRow}
use Rattle.lgm_check.specs.declared.row.UpdateRow.{UpdateRow}
use Rattle.lgm_check.specs.declared.row.NodeRow.{NodeRow}
use Rattle.lgm_check.specs.declared.row.BanRow.{BanRow}
use Rattle.lgm_store.specs.declared.op.Op.{Op}
use Rattle.lgm_store.specs.declared.op.Op.TheVariants as ops
use Rattle.lgm_store.specs.Keys.{IsKeyed, point_cmp, direction_cmp, point_of, direction_of, id_of}
use Rattle.lgm_store.specs.Rows.{Rows, IsAscending, empty, put, by_id, by_direction, by_node, by_point, channel_of, ends_channel, ends_banned}
use Rattle.lgm_store.specs.History.{absorbed, fold_from, fold, with_banned, without_stored}
use Rattle.lgm_store.specs.inner.Sound.{IsSound}
use Rattle.lgm_store.proofs.ListLaws.{All-filter}
use Rattle.lgm_store.proofs.Lists.{direction_total, node_total}

-- ---- the rows of an ordered map

module _ {K R : Type 0} (cmp : K → K → Ordering) (key : R → K) where
  above_all : (k : K) (row : R) (entries : List (K × R)) → k ≡ key row → IsKeyed key entries
      → AllByRecursion (λ other. cmp k other ≡ Less) (keys_of entries)
      → AllByRecursion (λ other. cmp (key row) (key other) ≡ Less) (values_of entries)
  above_all k row [] own keyed above = tt
  above_all k row (e ∷ es) own keyed above =
      (ap (λ x. cmp x (key e.1)) (sym own) ∙ ap (cmp k) (sym keyed.0) ∙ above.0, above_all k row es own keyed.1 above.1)

  pub ascend-values : (entries : List (K × R)) → IsKeyed key entries → IsStrictlySortedBy cmp
      (keys_of entries) → IsStrictlySortedBy (λ a b. cmp (key a) (key b)) (values_of entries)
  unfolding IsStrictlySortedBy
  ascend-values [] keyed sorted = tt
  ascend-values (e ∷ es) keyed sorted = (above_all e.0 e.1 es keyed.0 keyed.1 sorted.0, ascend-values es keyed.1 sorted.1)

pub IsAscending-sound : (channels : List (ℕ × ChannelRow)) (updates : List ((ℕ × Bool) × UpdateRow))
    (nodes : List (Point × NodeRow)) (ends : List (Point × List ℕ)) (rows : Rows)
    → IsSound channels updates nodes ends → IsStrictlySortedBy point_cmp rows.banned → values_of channels
    ≡ rows.channels → values_of updates ≡ rows.updates → values_of nodes ≡ rows.nodes → IsAscending rows
IsAscending-sound channels updates nodes ends rows sound banned c u n =
    record {
      channels = rw (← c) (ascend-values nat_cmp id_of channels sound.channels_keyed sound.channels_ascend);
      updates = rw (← u) (ascend-values direction_cmp direction_of updates sound.updates_keyed sound.updates_ascend);
      nodes = rw (← n) (ascend-values point_cmp point_of nodes sound.nodes_keyed sound.nodes_ascend);
      banned = banned;
    }

-- ---- the rows of a history

module _ {R : Type 0} (order : R → R → Ordering) where
  pub ascend-filter : (p : R → Bool) (rows : List R) → IsStrictlySortedBy order rows → IsStrictlySortedBy order (filter p rows)
  unfolding IsStrictlySortedBy
  ascend-filter p [] sorted = tt
  ascend-filter p (x ∷ xs) sorted = by (ascend-filter p xs sorted.1) (p x)
    where
      by : IsStrictlySortedBy order (filter p xs) → (b : Bool) → IsStrictlySortedBy order (cond b (x ∷ filter p xs) (filter p xs))
      by others true = (All-filter (λ y. order x y ≡ Less) p xs sorted.0, others)
      by others false = others

  All-append : (P : R → Type 0) (xs ys : List R) → AllByRecursion P xs → AllByRecursion P ys → AllByRecursion P (xs ++ ys)
  All-append P [] ys all all' = all'
  All-append P (x ∷ xs) ys all all' = (all.0, All-append P xs ys all.1 all')

  -- rows below a row, and rows above it
  ascend-around : IsTotalOrder order → (xs : List R) (row : R) (ys : List R) → IsStrictlySortedBy order xs → IsStrictlySortedBy order ys
      → AllByRecursion (λ x. order x row ≡ Less) xs → AllByRecursion (λ y. order row y ≡ Less) ys → IsStrictlySortedBy order (xs ++ row ∷ ys)
  unfolding IsStrictlySortedBy
  ascend-around total [] row ys sorted sorted' below above = (above, sorted')
  ascend-around total (x ∷ xs) row ys sorted sorted' below above = (
    All-append (λ y. order x y ≡ Less) xs (row ∷ ys) sorted.0 (below.0, through ys above),
    ascend-around total xs row ys sorted.1 sorted' below.1 above,
  )
    where
      through : (zs : List R) → AllByRecursion (λ y. order row y ≡ Less) zs → AllByRecursion (λ y. order x y ≡ Less) zs
      through [] a = tt
      through (z ∷ zs) a = (total.trans x row z below.0 a.0, through zs a.1)

  lesser : (row : R) (xs : List R) → AllByRecursion (λ x. order x row ≡ Less) (filter (λ x. is_lt (order x row)) xs)
  lesser row [] = tt
  lesser row (x ∷ xs) = by (lesser row xs) (order x row) refl
    where
      by : AllByRecursion (λ x. order x row ≡ Less) (filter (λ x. is_lt (order x row)) xs) → (o : Ordering) → order x row ≡ o
          → AllByRecursion (λ x. order x row ≡ Less) (cond (is_lt (order x row)) (x
          ∷ filter (λ x. is_lt (order x row)) xs) (filter (λ x. is_lt (order x row)) xs))
      by others Less is = rw is (is, others)
      by others Equal is = rw is others
      by others Greater is = rw is others

  greater : IsTotalOrder order → (row : R) (xs : List R) → AllByRecursion (λ y. order row y ≡ Less) (filter (λ x. is_gt (order x row)) xs)
  greater total row [] = tt
  greater total row (x ∷ xs) = by (greater total row xs) (order x row) refl
    where
      by : AllByRecursion (λ y. order row y ≡ Less) (filter (λ x. is_gt (order x row)) xs) → (o : Ordering) → order x row ≡ o
          → AllByRecursion (λ y. order row y ≡ Less) (cond (is_gt (order x row)) (x
          ∷ filter (λ x. is_gt (order x row)) xs) (filter (λ x. is_gt (order x row)) xs))
      by others Less is = rw is others
      by others Equal is = rw is others
      by others Greater is = rw is (total.antisymm row x ∙ ap ordering_reverse is, others)

  pub ascend-put : IsTotalOrder order → (rows : List R) (row : R) → IsStrictlySortedBy order rows → IsStrictlySortedBy order (put order rows row)
  ascend-put total rows row sorted =
      ascend-around total _ row _ (ascend-filter _ rows sorted) (ascend-filter _ rows sorted) (lesser row rows) (greater total row rows)

id_total : IsTotalOrder by_id
id_total = on_total id_of nat_cmp_total

by_direction_total : IsTotalOrder by_direction
by_direction_total = on_total direction_of direction_total

by_node_total : IsTotalOrder by_node
by_node_total = on_total point_of node_total

-- inserting points
pub ascend-with_banned : (points : List Point) (ban : BanRow) → IsStrictlySortedBy by_point points
    → IsStrictlySortedBy by_point (with_banned points ban)
ascend-with_banned points ban ascend =
    let put-point : (ps : List Point) (p : Point) → IsStrictlySortedBy by_point ps
    → IsStrictlySortedBy by_point (put by_point ps p) =
    λ ps p a. ascend-put by_point node_total ps p a in
    put-point _ ban.new2 (put-point _ ban.new1 (put-point _ ban.held2 (put-point points ban.held1 ascend)))

pub IsAscending-absorbed : (rows : Rows) (op : Op) → IsAscending rows → IsAscending (absorbed rows op)
IsAscending-absorbed rows (ops.Channel row) ascend =
    by (is_some (channel_of rows.channels row.message.short_channel_id) || ends_banned rows.banned row)
  where
    by : (b : Bool) → IsAscending (if b then rows else record rows { channels = put by_id rows.channels row })
    by true = ascend
    by false =
        record {
          channels = ascend-put by_id id_total rows.channels row ascend.channels;
          updates = ascend.updates;
          nodes = ascend.nodes;
          banned = ascend.banned;
        }
IsAscending-absorbed rows (ops.Update row) ascend = by (is_some (channel_of rows.channels row.message.short_channel_id))
  where
    by : (b : Bool) → IsAscending (if b then record rows { updates = put by_direction rows.updates row } else rows)
    by true =
        record {
          channels = ascend.channels;
          updates = ascend-put by_direction by_direction_total rows.updates row ascend.updates;
          nodes = ascend.nodes;
          banned = ascend.banned;
        }
    by false = ascend
IsAscending-absorbed rows (ops.Node row) ascend = by (ends_channel rows.channels row.message.node_id)
  where
    by : (b : Bool) → IsAscending (if b then record rows { nodes = put by_node rows.nodes row } else rows)
    by true =
        record {
          channels = ascend.channels;
          updates = ascend.updates;
          nodes = ascend-put by_node by_node_total rows.nodes row ascend.nodes;
          banned = ascend.banned;
        }
    by false = ascend
IsAscending-absorbed rows (ops.Close id) ascend = by (is_some (channel_of rows.channels id))
  where
    by : (b : Bool) → IsAscending (if b then without_stored rows id else rows)
    by true = record {
      channels = ascend-filter by_id _ rows.channels ascend.channels;
      updates = ascend-filter by_direction _ rows.updates ascend.updates;
      nodes = ascend-filter by_node _ rows.nodes ascend.nodes;
      banned = ascend.banned;
    }
    by false = ascend
IsAscending-absorbed rows (ops.Ban ban) ascend =
    record {
      channels = ascend-filter by_id _ rows.channels ascend.channels;
      updates = ascend-filter by_direction _ rows.updates ascend.updates;
      nodes = ascend-filter by_node _ rows.nodes ascend.nodes;
      banned = ascend-with_banned rows.banned ban ascend.banned;
    }

fold_from-ascends : (rows : Rows) (history : List Op) → IsAscending rows → IsAscending (fold_from rows history)
fold_from-ascends rows [] ascend = ascend
fold_from-ascends rows (op ∷ others) ascend = fold_from-ascends (absorbed rows op) others (IsAscending-absorbed rows op ascend)

pub fold-ascends : (history : List Op) → IsAscending (fold history)
unfolding IsStrictlySortedBy
fold-ascends history = fold_from-ascends empty history (record { channels = tt; updates = tt; nodes = tt; banned = tt })
