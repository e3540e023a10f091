-- The invariant of the maps that store rows, after each operation.
use Rattle.std.proofs.Common.{◌≡◌, ℕ, Bool, true, false, ◌||◌, cond, List, [], ◌∷◌, map, Some, None, refl, sym, ap, ◌∙◌}
use Rattle.std.specs.Prelude.{is_some}
use Rattle.std.specs.Option.{option_map}
use Rattle.std.specs.List.{AllByRecursion, filter, list_any}
use Rattle.std.specs.List.Sorted.{IsStrictlySortedBy}
use Rattle.std.specs.Map.{lookup, set_value, keys_of, values_of}
use Rattle.std.specs.BTreeMap.{is_at, insert_entry}
use Rattle.std.specs.declared.cmp.Ordering.{Ordering}
use Rattle.std.specs.declared.cmp.Ordering.TheVariants.{Less, Equal, Greater}
use Rattle.std.specs.Ordering.{is_eq, nat_cmp, match_ordering}
use Rattle.std.proofs.lemmas.Cmp.{nat_cmp_total}
use Rattle.lgm_wire.specs.declared.point.Point.{Point}
use Rattle.lgm_check.specs.declared.row.ChannelRow.{ChannelRow}
use Rattle.lgm_check.specs.declared.row.UpdateRow.{UpdateRow}
use Rattle.lgm_check.specs.declared.row.NodeRow.{NodeRow}
use Rattle.lgm_store.specs.declared.channel_info.ChannelInfo.{ChannelInfo}
use Rattle.lgm_store.specs.Keys.{IsKeyed, point_cmp, direction_cmp, point_of, direction_of, id_of}
use Rattle.lgm_store.specs.inner.ChannelEntries.{alone, with_update_in, channel_entries, update_entries}
use Rattle.lgm_store.specs.Rows.{ends_at, ends_channel}
use Rattle.lgm_store.specs.Reading.{ids_at}
use Rattle.lgm_store.specs.inner.ChannelsByNode.{entry_of, kept, with_id, changed, Lists, Lacks}
use Rattle.lgm_store.specs.inner.Sound.{IsSound, AreEnded}
use Rattle.lgm_store.proofs.ListLaws.{All-append, All-filter}
use Rattle.lgm_store.proofs.NodeIdListLaws.{kept-with}
use Rattle.lgm_store.proofs.Lists.{IsKeyed-channel, IsKeyed-update, IsKeyed-node, values-node}
use Rattle.lgm_store.proofs.ChannelMapLaws.{keys-channels, lookup-channels, insert-channels, set-channels, channel-with}
use Rattle.lgm_store.proofs.ChannelMapLaws.{ascend-updates, set-updates, insert-updates}

-- ---- the index has a node if and only if it has a channel

pub is_some-kept : {X : Type 0} (f : X → ℕ) (p : X → Bool) (xs : List X) → is_some (kept (map f (filter p xs))) ≡ list_any p xs
is_some-kept f p [] = refl
is_some-kept f p (x ∷ xs) = by (is_some-kept f p xs) (p x)
  where
    by : is_some (kept (map f (filter p xs))) ≡ list_any p xs → (b : Bool)
        → is_some (kept (map f (cond b (x ∷ filter p xs) (filter p xs)))) ≡ (b || list_any p xs)
    by others true = refl
    by others false = others

-- for any index
pub ends-listed : (ends : List (Point × List ℕ)) (channels : List ChannelRow) (node : Point) → Lists ends (ids_at channels)
    → is_some (entry_of ends node) ≡ ends_channel channels node
ends-listed ends channels node listed = ap is_some (listed node) ∙ is_some-kept id_of (ends_at node) channels

-- ---- no rows

pub IsSound-empty : (stored : List (ℕ × ChannelInfo)) (nodes : List (Point × NodeRow)) (ends : List (Point × List ℕ)) → stored ≡ [] → nodes ≡ [] → ends ≡ []
    → IsSound (channel_entries stored) (update_entries stored) nodes ends
unfolding IsStrictlySortedBy
IsSound-empty stored nodes ends h n e =
    rw (h, n, e) (record {
      channels_keyed = tt;
      updates_keyed = tt;
      nodes_keyed = tt;
      channels_ascend = tt;
      updates_ascend = tt;
      nodes_ascend = tt;
      nodes_ended = tt;
      listed = λ _. refl;
    })

-- ---- adding a channel

-- ids above an id
ids_above : (id : ℕ) (entries : List (ℕ × ChannelRow)) (node : Point) → IsKeyed id_of entries
    → AllByRecursion (λ k. nat_cmp id k ≡ Less) (keys_of entries)
    → AllByRecursion (λ k. nat_cmp id k ≡ Less) (ids_at (values_of entries) node)
ids_above id [] node keyed above = tt
ids_above id (e ∷ es) node keyed above = by (ids_above id es node keyed.1 above.1) (ends_at node e.1)
  where
    by : AllByRecursion (λ k. nat_cmp id k ≡ Less) (ids_at (values_of es) node)
        → (b : Bool) → AllByRecursion (λ k. nat_cmp id k ≡ Less) (map id_of
        (cond b (e.1 ∷ filter (ends_at node) (values_of es)) (filter (ends_at node) (values_of es))))
    by others true = (ap (nat_cmp id) (sym keyed.0) ∙ above.0, others)
    by others false = others

-- ids above a lesser one
ids_below : (id other : ℕ) (ids : List ℕ) → nat_cmp id other ≡ Less
    → AllByRecursion (λ k. nat_cmp other k ≡ Less) ids → AllByRecursion (λ k. nat_cmp id k ≡ Less) ids
ids_below id other [] less above = tt
ids_below id other (x ∷ xs) less above = (nat_cmp_total.trans id other x less above.0, ids_below id other xs less above.1)

-- an id below them comes first
with_id-first : (id : ℕ) (ids : List ℕ) → AllByRecursion (λ k. nat_cmp id k ≡ Less) ids → with_id ids id ≡ id ∷ ids
with_id-first id [] above = refl
with_id-first id (x ∷ xs) above = rw above.0 refl

-- the ids of a node after a channel is added
ids_at-insert : (id : ℕ) (row : ChannelRow) (node : Point) (entries : List (ℕ × ChannelRow)) → id ≡ id_of row
    → IsKeyed id_of entries → IsStrictlySortedBy nat_cmp (keys_of entries)
    → lookup (is_at (nat_cmp id)) entries ≡ None
    → ids_at (values_of (insert_entry nat_cmp entries id row)) node
    ≡ cond (ends_at node row) (with_id (ids_at (values_of entries) node) id) (ids_at (values_of entries) node)
unfolding IsStrictlySortedBy
ids_at-insert id row node [] own keyed sorted none = by (ends_at node row)
  where
    by : (b : Bool) → map id_of (cond b (row ∷ []) []) ≡ cond b (id ∷ []) []
    by true = rw own refl
    by false = refl
ids_at-insert id row node (e ∷ es) own keyed sorted none = by (ids_at-insert id row node es own keyed.1 sorted.1) (nat_cmp id e.0) refl none
  where
    others : List ℕ
    others = ids_at (values_of es) node

    whole : List ℕ
    whole = ids_at (values_of (e ∷ es)) node

    first : (b : Bool) → with_id whole id ≡ id ∷ whole → map id_of (cond b (row ∷ filter (ends_at node)
        (values_of (e ∷ es))) (filter (ends_at node) (values_of (e ∷ es)))) ≡ cond b (with_id whole id) whole
    first true is = rw (is, ← own) refl
    first false is = refl

    later : nat_cmp id (id_of e.1) ≡ Greater → (b d : Bool)
        → ids_at (values_of (insert_entry nat_cmp es id row)) node ≡ cond b (with_id others id) others
        → map id_of (cond d (e.1 ∷ filter (ends_at node) (values_of (insert_entry nat_cmp es id row)))
        (filter (ends_at node) (values_of (insert_entry nat_cmp es id row))))
        ≡ cond b (with_id (map id_of (cond d (e.1 ∷ filter (ends_at node) (values_of es)) (filter (ends_at node) (values_of es)))) id)
        (map id_of (cond d (e.1 ∷ filter (ends_at node) (values_of es)) (filter (ends_at node) (values_of es))))
    later past true true is = rw (past, is) refl
    later past true false is = is
    later past false true is = rw is refl
    later past false false is = is

    by : (lookup (is_at (nat_cmp id)) es ≡ None → ids_at (values_of (insert_entry nat_cmp es id row)) node
        ≡ cond (ends_at node row) (with_id others id) others)
        → (o : Ordering) → nat_cmp id e.0 ≡ o → cond (is_eq (nat_cmp id e.0)) (Some e.1) (lookup (is_at (nat_cmp id)) es) ≡ None
        → ids_at (values_of (match_ordering (nat_cmp id e.0) ((id, row) ∷ e ∷ es) ((e.0, row) ∷ es)
        (e ∷ insert_entry nat_cmp es id row))) node ≡ cond (ends_at node row) (with_id whole id) whole
    by rest Less is none =
        rw is (first (ends_at node row) (with_id-first id whole (ids_above id (e ∷ es) node keyed (is, ids_below id e.0 (keys_of es) is sorted.0))))
    by rest Equal is none = let never : Some e.1 ≡ None = rw is at none in absurd cc
    by rest Greater is none = rw is (later (ap (nat_cmp id) (sym keyed.0) ∙ is) (ends_at node row) (ends_at node e.1) (rest (rw is at none)))

-- nodes that have channels, if no channel is removed
AreEnded-more : (channels new : List ChannelRow) (nodes : List NodeRow)
    → ((node : Point) → ends_channel channels node ≡ true → ends_channel new node ≡ true)
    → AreEnded channels nodes → AreEnded new nodes
AreEnded-more channels new [] more ended = tt
AreEnded-more channels new (row ∷ rows) more ended = (more row.message.node_id ended.0, AreEnded-more channels new rows more ended.1)

ends_channel-more : (id : ℕ) (channels new : List ChannelRow) (node : Point) (b : Bool)
    → ids_at new node ≡ cond b (with_id (ids_at channels node) id) (ids_at channels node)
    → ends_channel channels node ≡ true → ends_channel new node ≡ true
ends_channel-more id channels new node b is ends =
    sym (is_some-kept id_of (ends_at node) new) ∙ ap (λ ids. is_some (kept ids)) is
    ∙ more b (is_some-kept id_of (ends_at node) channels ∙ ends)
  where
    more : (b : Bool) → is_some (kept (ids_at channels node)) ≡ true
        → is_some (kept (cond b (with_id (ids_at channels node) id) (ids_at channels node))) ≡ true
    more true e = rw (kept-with (ids_at channels node) id) refl
    more false e = e

pub IsSound-channel : (channels new : List (ℕ × ChannelRow)) (updates : List ((ℕ × Bool) × UpdateRow))
    (nodes : List (Point × NodeRow)) (ends ends' : List (Point × List ℕ))
    → (id : ℕ) (row : ChannelRow) (first second : Point) → id ≡ id_of row → first ≡ row.message.node_id_1 → second ≡ row.message.node_id_2
    → new ≡ insert_entry nat_cmp channels id row → lookup (is_at (nat_cmp id)) channels ≡ None → IsStrictlySortedBy nat_cmp (keys_of new)
    → ((ids : Point → List ℕ) → Lists ends ids → Lists ends' (changed (λ list. with_id list id) ids first second))
    → IsSound channels updates nodes ends → IsSound new updates nodes ends'
IsSound-channel channels new updates nodes ends ends' id row first second own first_is second_is is none ascend adds sound =
    let ids : (node : Point) → ids_at (values_of new) node ≡ cond (ends_at node row)
    (with_id (ids_at (values_of channels) node) id) (ids_at (values_of channels) node) =
    λ node. rw is (ids_at-insert id row node channels own sound.channels_keyed sound.channels_ascend none) in
    record {
      channels_keyed = IsKeyed-channel channels new id row own is sound.channels_keyed;
      updates_keyed = sound.updates_keyed;
      nodes_keyed = sound.nodes_keyed;
      channels_ascend = ascend;
      updates_ascend = sound.updates_ascend;
      nodes_ascend = sound.nodes_ascend;
      nodes_ended =
          AreEnded-more (values_of channels) (values_of new) (values_of nodes) (λ node. ends_channel-more id
          (values_of channels) (values_of new) node (ends_at node row) (ids node)) sound.nodes_ended;
      listed = λ node.
          adds (ids_at (values_of channels)) sound.listed node
          ∙ ap kept (rw (first_is, second_is) refl ∙ sym (ids node));
    }

-- the same of channels with their updates
pub IsSound-stored : (stored new : List (ℕ × ChannelInfo)) (nodes : List (Point × NodeRow)) (ends ends' : List (Point × List ℕ))
    → (id : ℕ) (row : ChannelRow) (first second : Point) → id ≡ id_of row → first ≡ row.message.node_id_1 → second ≡ row.message.node_id_2
    → new ≡ insert_entry nat_cmp stored id (alone row) → lookup (is_at (nat_cmp id)) stored ≡ None → IsStrictlySortedBy nat_cmp (keys_of new)
    → ((ids : Point → List ℕ) → Lists ends ids → Lists ends' (changed (λ list. with_id list id) ids first second))
    → IsSound (channel_entries stored) (update_entries stored) nodes ends → IsSound (channel_entries new) (update_entries new) nodes ends'
IsSound-stored stored new nodes ends ends' id row first second own first_is second_is is none ascend adds sound =
    let channels_is : channel_entries new ≡ insert_entry nat_cmp (channel_entries stored) id row =
    ap channel_entries is ∙ insert-channels id (alone row) stored in
    let updates_is : update_entries new ≡ update_entries stored = ap update_entries is ∙ insert-updates id row stored none in
    let none' : lookup (is_at (nat_cmp id)) (channel_entries stored) ≡ None =
    lookup-channels (is_at (nat_cmp id)) stored ∙ ap (option_map (λ h. h.channel)) none in
    let ascend' : IsStrictlySortedBy nat_cmp (keys_of (channel_entries new)) = rw (keys-channels new) ascend in
    rw updates_is (IsSound-channel (channel_entries stored) (channel_entries new) (update_entries stored) nodes
    ends ends' id row first second own first_is second_is channels_is none' ascend' adds sound)

-- an id that isn't there is on no list
pub lacks : (id : ℕ) (entries : List (ℕ × ChannelRow)) → IsKeyed id_of entries
    → lookup (is_at (nat_cmp id)) entries ≡ None → Lacks (ids_at (values_of entries)) id
lacks id [] keyed none node = refl
lacks id (e ∷ es) keyed none node = by (λ none. lacks id es keyed.1 none node) (is_at (nat_cmp id) e.0) refl (ends_at node e.1) none
  where
    by : (lookup (is_at (nat_cmp id)) es ≡ None → list_any (is_at (nat_cmp id)) (ids_at (values_of es) node)
        ≡ false) → (t : Bool) → is_at (nat_cmp id) e.0 ≡ t → (b : Bool)
        → cond (is_at (nat_cmp id) e.0) (Some e.1) (lookup (is_at (nat_cmp id)) es) ≡ None
        → list_any (is_at (nat_cmp id)) (map id_of
        (cond b (e.1 ∷ filter (ends_at node) (values_of es)) (filter (ends_at node) (values_of es)))) ≡ false
    by rest true is b none = let never : Some e.1 ≡ None = rw is at none in absurd cc
    by rest false is true none = rw (← keyed.0, is) (rest (rw is at none))
    by rest false is false none = rest (rw is at none)

-- the lists of another index
pub IsSound-listed : (channels : List (ℕ × ChannelRow)) (updates : List ((ℕ × Bool) × UpdateRow))
    (nodes : List (Point × NodeRow)) (ends ends' : List (Point × List ℕ))
    → Lists ends' (ids_at (values_of channels)) → IsSound channels updates nodes ends → IsSound channels updates nodes ends'
IsSound-listed channels updates nodes ends ends' listed sound =
    record {
      channels_keyed = sound.channels_keyed;
      updates_keyed = sound.updates_keyed;
      nodes_keyed = sound.nodes_keyed;
      channels_ascend = sound.channels_ascend;
      updates_ascend = sound.updates_ascend;
      nodes_ascend = sound.nodes_ascend;
      nodes_ended = sound.nodes_ended;
      listed = listed;
    }

-- ---- adding a node announcement

pub IsSound-node : (channels : List (ℕ × ChannelRow)) (updates : List ((ℕ × Bool) × UpdateRow))
    (nodes new : List (Point × NodeRow)) (ends : List (Point × List ℕ))
    → (k : Point) (row : NodeRow) → k ≡ point_of row → new ≡ insert_entry point_cmp nodes k row → IsStrictlySortedBy point_cmp (keys_of new)
    → ends_channel (values_of channels) (point_of row) ≡ true → IsSound channels updates nodes ends → IsSound channels updates new ends
IsSound-node channels updates nodes new ends k row own is ascend ended sound =
    let put_is = values-node nodes new k row own is sound.nodes_keyed sound.nodes_ascend in
    let others = sound.nodes_ended in
    record {
      channels_keyed = sound.channels_keyed;
      updates_keyed = sound.updates_keyed;
      nodes_keyed = IsKeyed-node nodes new k row own is sound.nodes_keyed;
      channels_ascend = sound.channels_ascend;
      updates_ascend = sound.updates_ascend;
      nodes_ascend = ascend;
      nodes_ended = rw put_is (All-append _ _ _ (All-filter _ _ (values_of nodes) others)
          (ended, All-filter _ _ (values_of nodes) others));
      listed = sound.listed;
    }

-- ---- adding an update

pub IsSound-update : (channels : List (ℕ × ChannelRow)) (updates new : List ((ℕ × Bool) × UpdateRow))
    (nodes : List (Point × NodeRow)) (ends : List (Point × List ℕ))
    → (k : ℕ × Bool) (row : UpdateRow) → k ≡ direction_of row → new ≡ insert_entry direction_cmp updates k row
    → IsStrictlySortedBy direction_cmp (keys_of new)
    → IsSound channels updates nodes ends → IsSound channels new nodes ends
IsSound-update channels updates new nodes ends k row own is ascend sound =
    record {
      channels_keyed = sound.channels_keyed;
      updates_keyed = IsKeyed-update updates new k row own is sound.updates_keyed;
      nodes_keyed = sound.nodes_keyed;
      channels_ascend = sound.channels_ascend;
      updates_ascend = ascend;
      nodes_ascend = sound.nodes_ascend;
      nodes_ended = sound.nodes_ended;
      listed = sound.listed;
    }

-- the same of channels with their updates
pub IsSound-put : (stored new : List (ℕ × ChannelInfo)) (nodes : List (Point × NodeRow)) (ends : List (Point × List ℕ))
    (id : ℕ) (second : Bool) (row : UpdateRow) (old : ChannelInfo)
    → (id, second) ≡ direction_of row → lookup (is_at (nat_cmp id)) stored ≡ Some old
    → new ≡ set_value (is_at (nat_cmp id)) stored (with_update_in second old row)
    → IsStrictlySortedBy nat_cmp (keys_of stored) → IsStrictlySortedBy nat_cmp (keys_of new)
    → IsSound (channel_entries stored) (update_entries stored) nodes ends → IsSound (channel_entries new) (update_entries new) nodes ends
IsSound-put stored new nodes ends id second row old own found is ascend ascend' sound =
    let channels_is : channel_entries new ≡ channel_entries stored =
    ap channel_entries is ∙ set-channels (is_at (nat_cmp id)) stored old (with_update_in second old row) found
    (channel-with second old row) in
    let updates_is : update_entries new ≡ insert_entry direction_cmp (update_entries stored) (id, second) row =
    ap update_entries is ∙ set-updates id second row stored old ascend found in
    rw channels_is (IsSound-update (channel_entries stored) (update_entries stored) (update_entries new) nodes
    ends (id, second) row own updates_is (ascend-updates new ascend') sound)
