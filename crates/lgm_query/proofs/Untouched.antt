-- What operations leave unchanged.
use Rattle.std.proofs.Common.{◌≡◌, ◌⊎◌, inl, inr, ℕ, Bool, true, false, ◌||◌, not, List, [], ◌∷◌, None, refl, sym, ap, ◌∙◌, arith}
use Rattle.std.specs.Prelude.{◌==◌, is_some, if◌then◌else◌}
use Rattle.std.specs.List.{AllByRecursion, list_any}
use Rattle.std.specs.List.Sorted.{IsStrictlySortedBy}
use Rattle.std.specs.declared.cmp.Ordering.TheVariants.{Less}
use Rattle.std.specs.Ordering.{nat_cmp}
use Rattle.std.proofs.lemmas.Bool.Decides.{nat_tests}
use Rattle.std.proofs.lemmas.Bool.{eqb-true, and_parts, or_parts}
use Rattle.lgm_wire.specs.declared.point.Point.{Point}
use Rattle.lgm_check.specs.declared.row.ChannelRow.{ChannelRow}
use Rattle.lgm_check.specs.declared.row.NodeRow.{NodeRow}
use Rattle.lgm_store.specs.declared.op.Op.{Op}
use Rattle.lgm_store.specs.declared.op.Op.TheVariants as ops
use Rattle.lgm_store.specs.Rows.{Rows, IsAscending, put, by_id, by_direction, by_node}
use Rattle.lgm_store.specs.Rows.{channel_of, update_of, node_of, ends_channel, ends_banned}
use Rattle.lgm_store.specs.History.{channels_without, ended_nodes, with_banned, allowed_channels, without_stored}
use Rattle.lgm_store.specs.History.{banned_channels, banning, absorbed, fold_from}
use Rattle.lgm_store.proofs.ListLaws.{All-each, All-to, find-kept, find-gone}
use Rattle.lgm_store.proofs.FoundRowLaws.{channel_of-put, update_of-put, node_of-put}
use Rattle.lgm_store.proofs.AscendingRowLaws.{IsAscending-absorbed}
use Rattle.lgm_store.proofs.Points.{same_point}
use Rattle.lgm_query.specs.Touched.{touches_channel, touches_node}

-- ---- the rows of a channel that isn't touched: the same, or none any more

abbrev pub SameChannel : ℕ → Rows → Rows → Type 0
SameChannel id before after =
    (channel_of after.channels id ≡ channel_of before.channels id)
    × ((second : Bool) → update_of after.updates id second ≡ update_of before.updates id second)

-- or it isn't in the map any more
abbrev pub NoChannel : ℕ → Rows → Type 0
NoChannel id after = channel_of after.channels id ≡ None

other_id : (x id other : ℕ) → (other == id) ≡ false → (x == id) ≡ true → not (x == other) ≡ true
other_id x id other differ is = grind (arith, nat_tests)

own_id : (x id other : ℕ) → (other == id) ≡ true → (x == id) ≡ true → not (x == other) ≡ false
own_id x id other same is = grind (arith, nat_tests)

-- a channel's id is unique: its rows pass a test together
id_alike : (id : ℕ) (q : ChannelRow → Bool) (rows : List ChannelRow) → IsStrictlySortedBy by_id rows
    → (b : Bool) × AllByRecursion (λ x. (x.message.short_channel_id == id) ≡ true → q x ≡ b) rows
unfolding IsStrictlySortedBy
id_alike id q [] ascend = (true, tt)
id_alike id q (row ∷ rows) ascend = by (id_alike id q rows ascend.1) (row.message.short_channel_id == id) refl
  where
    apart_from : (x : ChannelRow) → (row.message.short_channel_id == id) ≡ true
        → nat_cmp row.message.short_channel_id x.message.short_channel_id ≡ Less
        → (x.message.short_channel_id == id) ≡ true → q x ≡ q row
    apart_from x own less is = absurd (grind (arith, nat_tests))

    by : (b : Bool) × AllByRecursion (λ x. (x.message.short_channel_id == id) ≡ true → q x ≡ b) rows
        → (at : Bool) → (row.message.short_channel_id == id) ≡ at
        → (b : Bool) × AllByRecursion (λ x. (x.message.short_channel_id == id) ≡ true → q x ≡ b) (row ∷ rows)
    by others true own = (q row, (λ is. refl, All-to _ _ rows (λ x less. apart_from x own less) ascend.0))
    by others false own = (others.0, (λ is. let never : false ≡ true = sym own ∙ is in absurd cc, others.1))

channel_step : (id : ℕ) (rows : Rows) (op : Op) → IsAscending rows → touches_channel id op ≡ false
    → SameChannel id rows (absorbed rows op) ⊎ NoChannel id (absorbed rows op)
channel_step id rows (ops.Channel row) ascend differ =
    by (is_some (channel_of rows.channels row.message.short_channel_id) || ends_banned rows.banned row)
  where
    by : (b : Bool)
        → SameChannel id rows (if b then rows else record rows { channels = put by_id rows.channels row })
        ⊎ NoChannel id (if b then rows else record rows { channels = put by_id rows.channels row })
    by true = inl (refl, λ second. refl)
    by false = inl (channel_of-put id rows.channels row differ, λ second. refl)
channel_step id rows (ops.Update row) ascend differ = by (is_some (channel_of rows.channels row.message.short_channel_id))
  where
    by : (b : Bool) → SameChannel id rows (if b
        then record rows { updates = put by_direction rows.updates row } else rows)
        ⊎ NoChannel id (if b then record rows { updates = put by_direction rows.updates row } else rows)
    by true = inl (refl, λ second. update_of-put id second rows.updates row differ)
    by false = inl (refl, λ second. refl)
channel_step id rows (ops.Node row) ascend differ = by (ends_channel rows.channels row.message.node_id)
  where
    by : (b : Bool) → SameChannel id rows (if b then record rows { nodes = put by_node rows.nodes row }
        else rows) ⊎ NoChannel id (if b then record rows { nodes = put by_node rows.nodes row } else rows)
    by true = inl (refl, λ second. refl)
    by false = inl (refl, λ second. refl)
channel_step id rows (ops.Close other) ascend differ = by (is_some (channel_of rows.channels other))
  where
    at : (b : Bool) → (other == id) ≡ b → SameChannel id rows (without_stored rows other) ⊎ NoChannel id (without_stored rows other)
    at true own = inr (find-gone _ _ rows.channels (All-each _ _ (λ x is. own_id x.message.short_channel_id id other own is)))
    at false other_is = inl (
      find-kept _ _ rows.channels (All-each _ _ (λ x is. other_id x.message.short_channel_id id other other_is is)),
      λ second. find-kept _ _ rows.updates (All-each _ _ (λ x is. other_id x.message.short_channel_id id other other_is (and_parts _ _ is).0)),
    )

    by : (b : Bool) → SameChannel id rows (if b then without_stored rows other else rows) ⊎ NoChannel id (if b then without_stored rows other else rows)
    by true = at (other == id) refl
    by false = inl (refl, λ second. refl)
channel_step id rows (ops.Ban ban) ascend differ = by alike.0 alike.1
  where
    banned : List Point
    banned = with_banned rows.banned ban

    gone : List ChannelRow
    gone = banned_channels banned rows.channels

    alike : (b : Bool) × AllByRecursion (λ x. (x.message.short_channel_id == id) ≡ true → ends_banned banned x ≡ b) rows.channels
    alike = id_alike id (ends_banned banned) rows.channels ascend.channels

    by : (b : Bool) → AllByRecursion (λ x. (x.message.short_channel_id == id) ≡ true → ends_banned banned x
        ≡ b) rows.channels → SameChannel id rows (banning rows banned) ⊎ NoChannel id (banning rows banned)
    by true all = inr (find-gone _ _ rows.channels (All-to _ _ rows.channels (λ x each is. ap not (each is)) all))
    by false all =
        let none : channel_of gone id ≡ None = find-gone _ _ rows.channels all in
        inl (
          find-kept _ _ rows.channels (All-to _ _ rows.channels (λ x each is. ap not (each is)) all),
          λ second. find-kept _ _ rows.updates (All-each _ _ (λ x is. ap (λ k. not (is_some (channel_of gone k)))
              (eqb-true x.message.short_channel_id id (and_parts _ _ is).0) ∙ ap (λ o. not (is_some o)) none)),
        )

both_channel_steps : (id : ℕ) (before mid after : Rows) → SameChannel id before mid ⊎ NoChannel id mid
    → SameChannel id mid after ⊎ NoChannel id after → SameChannel id before after ⊎ NoChannel id after
both_channel_steps id before mid after (inl first) (inl second) = inl (second.0 ∙ first.0, λ direction. second.1 direction ∙ first.1 direction)
both_channel_steps id before mid after (inr first) (inl second) = inr (second.0 ∙ first)
both_channel_steps id before mid after first (inr second) = inr second

pub channel_untouched : (id : ℕ) (rows : Rows) (history : List Op) → IsAscending rows
    → list_any (touches_channel id) history ≡ false
    → SameChannel id rows (fold_from rows history) ⊎ NoChannel id (fold_from rows history)
channel_untouched id rows [] ascend none = inl (refl, λ second. refl)
channel_untouched id rows (op ∷ history) ascend none =
    let parts = or_parts _ _ none in
    both_channel_steps id rows (absorbed rows op) (fold_from (absorbed rows op) history) (channel_step id rows op ascend parts.0)
    (channel_untouched id (absorbed rows op) history (IsAscending-absorbed rows op ascend) parts.1)

-- ---- the row of a node that isn't touched: the same, or none any more

abbrev pub SameNode : Point → Rows → Rows → Type 0
SameNode node before after = (node_of after.nodes node ≡ node_of before.nodes node) ⊎ (node_of after.nodes node ≡ None)

ended_same : (node : Point) (channels : List ChannelRow) (rows : List NodeRow) → (b : Bool) → ends_channel channels node ≡ b
    → (node_of (ended_nodes channels rows) node ≡ node_of rows node) ⊎ (node_of (ended_nodes channels rows) node ≡ None)
ended_same node channels rows true is = inl (find-kept _ _ rows (All-each _ _ (λ x own. ap (ends_channel channels) (same_point x.message.node_id node own) ∙ is)))
ended_same node channels rows false is = inr (find-gone _ _ rows (All-each _ _ (λ x own. ap (ends_channel channels) (same_point x.message.node_id node own) ∙ is)))

node_step : (node : Point) (rows : Rows) (op : Op) → touches_node node op ≡ false → SameNode node rows (absorbed rows op)
node_step node rows (ops.Channel row) differ = by (is_some (channel_of rows.channels row.message.short_channel_id) || ends_banned rows.banned row)
  where
    by : (b : Bool) → SameNode node rows (if b then rows else record rows { channels = put by_id rows.channels row })
    by true = inl refl
    by false = inl refl
node_step node rows (ops.Update row) differ = by (is_some (channel_of rows.channels row.message.short_channel_id))
  where
    by : (b : Bool) → SameNode node rows (if b then record rows { updates = put by_direction rows.updates row } else rows)
    by true = inl refl
    by false = inl refl
node_step node rows (ops.Node row) differ = by (ends_channel rows.channels row.message.node_id)
  where
    by : (b : Bool) → SameNode node rows (if b then record rows { nodes = put by_node rows.nodes row } else rows)
    by true = inl (node_of-put node rows.nodes row differ)
    by false = inl refl
node_step node rows (ops.Close other) differ = by (is_some (channel_of rows.channels other))
  where
    by : (b : Bool) → SameNode node rows (if b then without_stored rows other else rows)
    by true = ended_same node (channels_without rows.channels other) rows.nodes (ends_channel (channels_without rows.channels other) node) refl
    by false = inl refl
node_step node rows (ops.Ban ban) differ =
    ended_same node (allowed_channels (with_banned rows.banned ban) rows.channels) rows.nodes
    (ends_channel (allowed_channels (with_banned rows.banned ban) rows.channels) node) refl

both_steps : (node : Point) (before mid after : Rows) → SameNode node before mid → SameNode node mid after → SameNode node before after
both_steps node before mid after (inl first) (inl second) = inl (second ∙ first)
both_steps node before mid after (inr first) (inl second) = inr (second ∙ first)
both_steps node before mid after first (inr second) = inr second

pub node_untouched : (node : Point) (rows : Rows) (history : List Op)
    → list_any (touches_node node) history ≡ false → SameNode node rows (fold_from rows history)
node_untouched node rows [] none = inl refl
node_untouched node rows (op ∷ history) none =
    let parts = or_parts _ _ none in
    both_steps node rows (absorbed rows op) (fold_from (absorbed rows op) history)
    (node_step node rows op parts.0) (node_untouched node (absorbed rows op) history parts.1)
