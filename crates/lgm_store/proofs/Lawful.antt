-- The laws of the rows that histories leave.
use Rattle.std.proofs.Common.{◌≡◌, ℕ, Bool, true, false, not, ◌||◌, cond, List, [], ◌∷◌, Some, refl, sym, ap, ◌∙◌, eqb, arith}
use Rattle.std.specs.Prelude.{is_some, if◌then◌else◌}
use Rattle.std.specs.List.{AllByRecursion, filter, find, list_any}
use Rattle.std.specs.declared.cmp.Ordering.{Ordering}
use Rattle.std.specs.declared.cmp.Ordering.TheVariants.{Less, Equal, Greater}
use Rattle.std.specs.Ordering.{is_lt, is_gt, nat_cmp}
use Rattle.std.proofs.lemmas.List.Folds.{list_any-append}
use Rattle.std.proofs.lemmas.Map.Views.{any-filter_same}
use Rattle.std.proofs.lemmas.Bool.Decides.{nat_tests}
use Rattle.lgm_wire.specs.declared.point.Point.{Point}
use Rattle.lgm_check.specs.declared.row.ChannelRow.{ChannelRow}
use Rattle.lgm_check.specs.declared.row.UpdateRow.{UpdateRow}
use Rattle.lgm_check.specs.declared.row.NodeRow.{NodeRow}
use Rattle.lgm_check.specs.declared.row.BanRow.{BanRow}
use Rattle.lgm_store.specs.declared.op.Op.{Op}
use Rattle.lgm_store.specs.declared.op.Op.TheVariants as ops
use Rattle.lgm_store.specs.Rows.{Rows, empty, put, by_id, by_direction, by_node, channel_of, ends_at, ends_channel, ends_banned}
use Rattle.lgm_store.specs.History.{absorbed, fold_from, fold, with_banned, channels_without, without_stored}
use Rattle.lgm_store.specs.History.{allowed_channels, banned_channels}
use Rattle.lgm_store.specs.Laws.{IsLawful, AreStored, AreEnded, AreAllowed}
use Rattle.lgm_store.specs.Keys.{id_of}
use Rattle.lgm_store.proofs.ListLaws.{All-filtered, All-put, All-to}
use Rattle.lgm_store.proofs.AscendingRowLaws.{fold-ascends}
use Rattle.lgm_store.proofs.Removals.{AreEnded-ended_nodes}

-- a test that finds a row still finds one after a row is inserted
any-put : {R : Type 0} (p : R → Bool) (order : R → R → Ordering) (row : R) (rows : List R)
    → AllByRecursion (λ x. order x row ≡ Equal → p x ≡ true → p row ≡ true) rows
    → list_any p rows ≡ true → list_any p (put order rows row) ≡ true
any-put {R} p order row rows alike any =
    list_any-append p (filter (λ x. is_lt (order x row)) rows) (row ∷ filter (λ x. is_gt (order x row)) rows)
    ∙ parts rows alike any
  where
    middle : (a b : Bool) → (a || (true || b)) ≡ true
    middle a b = grind arith

    last : (a b : Bool) → (a || (b || true)) ≡ true
    last a b = grind arith

    parts : (xs : List R) → AllByRecursion (λ x. order x row ≡ Equal → p x ≡ true → p row ≡ true) xs → list_any p xs ≡ true
        → (list_any p (filter (λ x. is_lt (order x row)) xs) || (p row || list_any p (filter (λ x. is_gt (order x row)) xs))) ≡ true
    parts [] alike any = absurd cc
    parts (x ∷ xs) alike any = at (parts xs alike.1) (order x row) refl (p x) refl any
      where
        at : (list_any p xs ≡ true → (list_any p (filter (λ x. is_lt (order x row)) xs)
            || (p row || list_any p (filter (λ x. is_gt (order x row)) xs))) ≡ true)
            → (o : Ordering) → order x row ≡ o → (b : Bool) → p x ≡ b → (p x || list_any p xs) ≡ true
            → (list_any p (cond (is_lt (order x row)) (x ∷ filter (λ x. is_lt (order x row)) xs) (filter (λ x. is_lt (order x row)) xs))
            || (p row || list_any p (cond (is_gt (order x row)) (x ∷ filter (λ x. is_gt (order x row)) xs)
            (filter (λ x. is_gt (order x row)) xs)))) ≡ true
        at others Less is true here any = rw (is, here) refl
        at others Less is false here any = rw (is, here) (others (rw here at any))
        at others Equal is true here any =
            rw (is, alike.0 is here) (middle (list_any p (filter (λ x. is_lt (order x row)) xs))
            (list_any p (filter (λ x. is_gt (order x row)) xs)))
        at others Equal is false here any = rw is (others (rw here at any))
        at others Greater is true here any = rw (is, here) (last (list_any p (filter (λ x. is_lt (order x row)) xs)) (p row))
        at others Greater is false here any = rw (is, here) (others (rw here at any))

-- ---- looking rows up

is_some-find : {R : Type 0} (p : R → Bool) (rows : List R) → is_some (find p rows) ≡ list_any p rows
is_some-find {R} p [] = refl
is_some-find {R} p (x ∷ xs) = by (is_some-find p xs) (p x)
  where
    by : is_some (find p xs) ≡ list_any p xs → (b : Bool) → is_some (cond b (Some x) (find p xs)) ≡ (b || list_any p xs)
    by others true = refl
    by others false = others

-- whether a channel has an id
abbrev is_of : ℕ → ChannelRow → Bool
is_of id row = eqb row.message.short_channel_id id

stored_any : (rows : List ChannelRow) (id : ℕ) → is_some (channel_of rows id) ≡ list_any (is_of id) rows
stored_any rows id = is_some-find (is_of id) rows

-- an id that isn't found has no row
no_like : (rows : List ChannelRow) (row : ChannelRow) → is_some (channel_of rows (id_of row)) ≡ false
    → AllByRecursion (λ x. by_id x row ≡ Equal → ⊥) rows
no_like [] row none = tt
no_like (x ∷ xs) row none = by (no_like xs row) (eqb (id_of x) (id_of row)) refl none
  where
    like : (a b : ℕ) → nat_cmp a b ≡ Equal → eqb a b ≡ true
    like a b e = grind (arith, nat_tests)

    by : (is_some (channel_of xs (id_of row)) ≡ false → AllByRecursion (λ x. by_id x row ≡ Equal → ⊥) xs) → (b : Bool) → eqb (id_of x) (id_of row) ≡ b
        → is_some (cond (eqb (id_of x) (id_of row)) (Some x) (channel_of xs (id_of row))) ≡ false
        → AllByRecursion (λ x. by_id x row ≡ Equal → ⊥) (x ∷ xs)
    by others true is none = let never : true ≡ false = rw is at none in absurd cc
    by others false is none =
        let rest : is_some (channel_of xs (id_of row)) ≡ false = rw is at none in
        ((λ e. let never : true ≡ false = sym (like (id_of x) (id_of row) e) ∙ is in absurd cc), others rest)

-- after adding a channel, the channels before are still there
any-channel : (p : ChannelRow → Bool) (rows : List ChannelRow) (row : ChannelRow) → is_some
    (channel_of rows (id_of row)) ≡ false → list_any p rows ≡ true → list_any p (put by_id rows row) ≡ true
any-channel p rows row none any =
    any-put p by_id row rows (All-to (λ x. by_id x row ≡ Equal → ⊥) _ rows
    (λ x never e here. absurd (never e)) (no_like rows row none)) any

stored-more : (rows : List ChannelRow) (row : ChannelRow) (id : ℕ) → is_some (channel_of rows (id_of row))
    ≡ false → is_some (channel_of rows id) ≡ true → is_some (channel_of (put by_id rows row) id) ≡ true
stored-more rows row id none stored = stored_any (put by_id rows row) id ∙ any-channel (is_of id) rows row none (sym (stored_any rows id) ∙ stored)

-- removing another channel
stored-without : (rows : List ChannelRow) (gone id : ℕ) → not (eqb id gone) ≡ true
    → is_some (channel_of rows id) ≡ true → is_some (channel_of (channels_without rows gone) id) ≡ true
stored-without rows gone id apart stored =
    stored_any (channels_without rows gone) id
    ∙ any-filter_same (is_of id) (λ row. not (eqb (id_of row) gone)) true (λ row is. ap (λ k. not (eqb k gone)) (same (id_of row) id is) ∙ apart) rows
    ∙ sym (stored_any rows id) ∙ stored
  where
    same : (a b : ℕ) → eqb a b ≡ true → a ≡ b
    same a b e = grind (arith, nat_tests)

-- a test finds a row among those that pass another, or among the others
any-parts : {R : Type 0} (t q : R → Bool) (rows : List R) → list_any t rows ≡ true
    → list_any t (filter q rows) ≡ false → list_any t (filter (λ x. not (q x)) rows) ≡ true
any-parts {R} t q [] any none = any
any-parts {R} t q (x ∷ xs) any none = by (any-parts t q xs) (q x) refl (t x) refl any none
  where
    by : (list_any t xs ≡ true → list_any t (filter q xs) ≡ false → list_any t (filter (λ x. not (q x)) xs) ≡ true)
        → (b : Bool) → q x ≡ b → (d : Bool) → t x ≡ d → (t x || list_any t xs) ≡ true
        → list_any t (cond (q x) (x ∷ filter q xs) (filter q xs)) ≡ false
        → list_any t (cond (not (q x)) (x ∷ filter (λ x. not (q x)) xs) (filter (λ x. not (q x)) xs)) ≡ true
    by others true is true here any none = let never : true ≡ false = rw (is, here) at none in absurd cc
    by others true is false here any none = rw is (others (rw here at any) (rw (is, here) at none))
    by others false is true here any none = rw (is, here) refl
    by others false is false here any none = rw (is, here) (others (rw here at any) (rw is at none))

not_so : (b : Bool) → not b ≡ true → b ≡ false
not_so true e = absurd cc
not_so false e = refl

stored-allowed : (banned : List Point) (rows : List ChannelRow) (id : ℕ)
    → not (is_some (channel_of (banned_channels banned rows) id)) ≡ true → is_some (channel_of rows id) ≡ true
    → is_some (channel_of (allowed_channels banned rows) id) ≡ true
stored-allowed banned rows id gone stored =
    stored_any (allowed_channels banned rows) id
    ∙ any-parts (is_of id) (ends_banned banned) rows (sym (stored_any rows id) ∙ stored) (sym (stored_any
    (banned_channels banned rows) id) ∙ not_so (is_some (channel_of (banned_channels banned rows) id)) gone)

-- ---- each operation preserves the laws

-- they hold after each change that an operation may make
record Stays (P : Rows → Type 0) (rows : Rows) : Type 0 where
  channel : (row : ChannelRow) → is_some (channel_of rows.channels (id_of row)) ≡ false → ends_banned rows.banned row ≡ false
      → P (record rows { channels = put by_id rows.channels row })
  update : (row : UpdateRow) → is_some (channel_of rows.channels row.message.short_channel_id) ≡ true
      → P (record rows { updates = put by_direction rows.updates row })
  node : (row : NodeRow) → ends_channel rows.channels row.message.node_id ≡ true → P (record rows { nodes = put by_node rows.nodes row })
  close : (id : ℕ) → P (without_stored rows id)
  ban : (ban : BanRow) → P (absorbed rows (ops.Ban ban))

absorbed-keeps : (P : Rows → Type 0) (rows : Rows) (op : Op) → P rows → Stays P rows → P (absorbed rows op)
absorbed-keeps P rows (ops.Channel row) same stays =
    by (is_some (channel_of rows.channels (id_of row))) refl (ends_banned rows.banned row) refl
  where
    by : (b : Bool) → is_some (channel_of rows.channels (id_of row)) ≡ b → (d : Bool) → ends_banned rows.banned row ≡ d
        → P (if b || d then rows else record rows { channels = put by_id rows.channels row })
    by true is d banned = same
    by false is true banned = same
    by false is false banned = stays.channel row is banned
absorbed-keeps P rows (ops.Update row) same stays = by (is_some (channel_of rows.channels row.message.short_channel_id)) refl
  where
    by : (b : Bool) → is_some (channel_of rows.channels row.message.short_channel_id) ≡ b
        → P (if b then record rows { updates = put by_direction rows.updates row } else rows)
    by true is = stays.update row is
    by false is = same
absorbed-keeps P rows (ops.Node row) same stays = by (ends_channel rows.channels row.message.node_id) refl
  where
    by : (b : Bool) → ends_channel rows.channels row.message.node_id ≡ b
        → P (if b then record rows { nodes = put by_node rows.nodes row } else rows)
    by true is = stays.node row is
    by false is = same
absorbed-keeps P rows (ops.Close id) same stays = by (is_some (channel_of rows.channels id))
  where
    by : (b : Bool) → P (if b then without_stored rows id else rows)
    by true = stays.close id
    by false = same
absorbed-keeps P rows (ops.Ban ban) same stays = stays.ban ban

pub AreStored-absorbed : (rows : Rows) (op : Op) → AreStored rows → AreStored (absorbed rows op)
AreStored-absorbed rows op stored = absorbed-keeps AreStored rows op stored (record {
  channel = λ row is allowed.
      All-to (λ u. is_some (channel_of rows.channels u.message.short_channel_id) ≡ true) _ rows.updates
      (λ u h. stored-more rows.channels row u.message.short_channel_id is h) stored;
  update = λ row is.
      All-put (λ u. is_some (channel_of rows.channels u.message.short_channel_id) ≡ true) by_direction rows.updates row is stored;
  node = λ row is. stored;
  close = λ id.
      All-filtered (λ u. is_some (channel_of rows.channels u.message.short_channel_id) ≡ true) _ _
      rows.updates (λ u apart h. stored-without rows.channels id u.message.short_channel_id apart h) stored;
  ban = λ ban.
      All-filtered (λ u. is_some (channel_of rows.channels u.message.short_channel_id) ≡ true) _ _ rows.updates
      (λ u gone h. stored-allowed (with_banned rows.banned ban) rows.channels u.message.short_channel_id gone h) stored;
})

pub AreEnded-absorbed : (rows : Rows) (op : Op) → AreEnded rows → AreEnded (absorbed rows op)
AreEnded-absorbed rows op ended = absorbed-keeps AreEnded rows op ended (record {
  channel = λ row is allowed.
      All-to (λ n. ends_channel rows.channels n.message.node_id ≡ true) _ rows.nodes
      (λ n e. any-channel (ends_at n.message.node_id) rows.channels row is e) ended;
  update = λ row is. ended;
  node = λ row is. All-put (λ n. ends_channel rows.channels n.message.node_id ≡ true) by_node rows.nodes row is ended;
  close = λ id. AreEnded-ended_nodes (channels_without rows.channels id) rows.nodes;
  ban = λ ban. AreEnded-ended_nodes (allowed_channels (with_banned rows.banned ban) rows.channels) rows.nodes;
})

pub AreAllowed-absorbed : (rows : Rows) (op : Op) → AreAllowed rows → AreAllowed (absorbed rows op)
AreAllowed-absorbed rows op allowed = absorbed-keeps AreAllowed rows op allowed (record {
  channel = λ row is free. All-put (λ x. ends_banned rows.banned x ≡ false) by_id rows.channels row free allowed;
  update = λ row is. allowed;
  node = λ row is. allowed;
  close = λ id. All-filtered (λ x. ends_banned rows.banned x ≡ false) (λ x. ends_banned rows.banned x ≡ false) _ rows.channels (λ x is p. p) allowed;
  ban = λ ban.
      All-filtered (λ x. ends_banned rows.banned x ≡ false) _ _ rows.channels
      (λ x is p. not_so (ends_banned (with_banned rows.banned ban) x) is) allowed;
})

-- ---- histories

pub fold_from-keeps : (P : Rows → Type 0) → ((rows : Rows) (op : Op) → P rows → P (absorbed rows op))
    → (rows : Rows) (history : List Op) → P rows → P (fold_from rows history)
fold_from-keeps P keeps rows [] here = here
fold_from-keeps P keeps rows (op ∷ others) here = fold_from-keeps P keeps (absorbed rows op) others (keeps rows op here)

pub fold-lawful : (history : List Op) → IsLawful (fold history)
fold-lawful history = record {
  ascend = fold-ascends history;
  stored = fold_from-keeps AreStored AreStored-absorbed empty history tt;
  ended = fold_from-keeps AreEnded AreEnded-absorbed empty history tt;
  allowed = fold_from-keeps AreAllowed AreAllowed-absorbed empty history tt;
}
