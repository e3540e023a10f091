-- The number of channels of rows.
use Rattle.std.proofs.Common.{ℕ, ◌+◌, ◌≤◌, Bool, true, false, cond, List, [], ◌∷◌, length, arith}
use Rattle.std.specs.Prelude.{filter, is_some, not, ◌==◌, ◌||◌}
use Rattle.std.specs.declared.cmp.Ordering.{Ordering}
use Rattle.std.specs.declared.cmp.Ordering.TheVariants.{Less, Equal, Greater}
use Rattle.std.specs.Ordering.{is_lt, is_gt}
use Rattle.std.proofs.lemmas.List.{length-append}
use Rattle.lgm_store.specs.declared.op.Op.{Op}
use Rattle.lgm_store.specs.declared.op.Op.TheVariants as ops
use Rattle.lgm_store.specs.Rows.{Rows, put, by_id, by_direction, by_node, channel_of, ends_channel, ends_banned}
use Rattle.lgm_store.specs.History.{absorbed, fold_from, with_banned, without_stored}

kept_few : {X : Type 0} (p : X → Bool) (xs : List X) → length (filter p xs) ≤ length xs
kept_few p [] = omega arith
kept_few p (x ∷ xs) = by (p x) (kept_few p xs)
  where
    by : (b : Bool) → length (filter p xs) ≤ length xs → length (cond b (x ∷ filter p xs) (filter p xs)) ≤ length (x ∷ xs)
    by true few = omega (arith, few)
    by false few = omega (arith, few)

-- those before and those after
sides_few : {X : Type 0} (order : X → Ordering) (xs : List X)
    → length (filter (λ x. is_lt (order x)) xs) + length (filter (λ x. is_gt (order x)) xs) ≤ length xs
sides_few order [] = omega arith
sides_few order (x ∷ xs) = by (order x) (sides_few order xs)
  where
    by : (o : Ordering) → length (filter (λ y. is_lt (order y)) xs) + length (filter (λ y. is_gt (order y)) xs) ≤ length xs
        → length (cond (is_lt o) (x ∷ filter (λ y. is_lt (order y)) xs) (filter (λ y. is_lt (order y)) xs))
        + length (cond (is_gt o) (x ∷ filter (λ y. is_gt (order y)) xs) (filter (λ y. is_gt (order y)) xs))
        ≤ length (x ∷ xs)
    by Less few = omega (arith, few)
    by Equal few = omega (arith, few)
    by Greater few = omega (arith, few)

put_few : {X : Type 0} (order : X → X → Ordering) (xs : List X) (x : X) → length (put order xs x) ≤ length xs + 1
put_few order xs x =
    omega (arith, sides_few (λ y. order y x) xs, length-append (filter (λ y. is_lt (order y x)) xs) (x ∷ filter (λ y. is_gt (order y x)) xs))

either_few : (b : Bool) (rows others : Rows) (most : ℕ) → length rows.channels ≤ most
    → length others.channels ≤ most → length (cond b rows others).channels ≤ most
either_few true rows others most few fewer = few
either_few false rows others most few fewer = fewer

-- an operation adds one channel at most
pub absorbed_few : (rows : Rows) (op : Op) → length (absorbed rows op).channels ≤ length rows.channels + 1
absorbed_few rows (ops.Channel row) =
    either_few (is_some (channel_of rows.channels row.message.short_channel_id)
    || ends_banned rows.banned row) rows (record rows { channels = put by_id rows.channels row })
    (length rows.channels + 1) (omega arith) (put_few by_id rows.channels row)
absorbed_few rows (ops.Update row) =
    either_few (is_some (channel_of rows.channels row.message.short_channel_id))
    (record rows { updates = put by_direction rows.updates row }) rows (length rows.channels + 1)
    (omega arith) (omega arith)
absorbed_few rows (ops.Node row) =
    either_few (ends_channel rows.channels row.message.node_id) (record rows {
      nodes = put by_node rows.nodes row;
    }) rows (length rows.channels + 1) (omega arith) (omega arith)
absorbed_few rows (ops.Close id) =
    either_few (is_some (channel_of rows.channels id))
    (without_stored rows id) rows (length rows.channels + 1)
    (omega (arith, kept_few (λ row. not (row.message.short_channel_id == id)) rows.channels)) (omega arith)
absorbed_few rows (ops.Ban ban) = omega (arith, kept_few (λ row. not (ends_banned (with_banned rows.banned ban) row)) rows.channels)

-- and so a history as many as it has operations
pub fold_few : (rows : Rows) (history : List Op) → length (fold_from rows history).channels ≤ length rows.channels + length history
fold_few rows [] = omega arith
fold_few rows (op ∷ history) = omega (arith, absorbed_few rows op, fold_few (absorbed rows op) history)
