-- The invariant after a channel is removed.
use Rattle.std.proofs.Common.{◌≡◌, ℕ, Bool, true, false, ◌&&◌, ◌||◌, cond, List, [], ◌∷◌, map, Some, refl, sym, ap, ◌∙◌, arith}
use Rattle.std.specs.Prelude.{is_some}
use Rattle.std.specs.Option.{option_map}
use Rattle.std.specs.List.{AllByRecursion, filter}
use Rattle.std.specs.List.Sorted.{IsStrictlySortedBy}
use Rattle.std.specs.Map.{lookup, remove_entry, keys_of, values_of}
use Rattle.std.specs.BTreeMap.{is_at}
use Rattle.std.specs.Ordering.{nat_cmp}
use Rattle.std.proofs.lemmas.Bool.{or_right}
use Rattle.lgm_wire.specs.declared.point.Point.{Point}
use Rattle.lgm_check.specs.declared.row.ChannelRow.{ChannelRow}
use Rattle.lgm_check.specs.declared.row.NodeRow.{NodeRow}
use Rattle.lgm_store.specs.declared.channel_info.ChannelInfo.{ChannelInfo}
use Rattle.lgm_store.specs.Keys.{IsKeyed, point_cmp, point_of, id_of}
use Rattle.lgm_store.specs.inner.ChannelEntries.{channel_entries, update_entries}
use Rattle.lgm_store.specs.Rows.{is_point, ends_at, ends_channel}
use Rattle.lgm_store.specs.History.{channels_without, updates_without, ended_nodes}
use Rattle.lgm_store.specs.Reading.{ids_at}
use Rattle.lgm_store.specs.inner.ChannelsByNode.{entry_of, kept, without_id, changed, Lists, stays_beside}
use Rattle.lgm_store.specs.inner.Sound.{IsSound, AreEnded}
use Rattle.lgm_store.proofs.ListLaws.{filter-alike, filter-filter}
use Rattle.lgm_store.proofs.Points.{same_point}
use Rattle.lgm_store.proofs.Lists.{values-no_channel}
use Rattle.lgm_store.proofs.ChannelMapLaws.{keys-channels, lookup-channels, remove-channels}
use Rattle.lgm_store.proofs.ChannelMapLaws.{ascend-updates, values-without, keyed-without}
use Rattle.lgm_store.proofs.Ordered.{IsKeyed-remove}
use Rattle.lgm_store.proofs.Booleans.{and_true, or_false}
use Rattle.lgm_store.proofs.Soundness.{ends-listed, is_some-kept}

-- ---- removing a channel

-- the ids of a node after a channel is removed
ids_at-remove : (id : ℕ) (row : ChannelRow) (node : Point) (entries : List (ℕ × ChannelRow))
    → IsKeyed id_of entries → lookup (is_at (nat_cmp id)) entries ≡ Some row
    → ids_at (values_of (remove_entry (is_at (nat_cmp id)) entries)) node ≡ cond (ends_at node row)
    (without_id (ids_at (values_of entries) node) id) (ids_at (values_of entries) node)
ids_at-remove id row node [] keyed found = absurd cc
ids_at-remove id row node (e ∷ es) keyed found = by (ids_at-remove id row node es keyed.1) (is_at (nat_cmp id) e.0) refl found
  where
    others : List ChannelRow
    others = filter (ends_at node) (values_of es)

    here : is_at (nat_cmp id) (id_of e.1) ≡ true → (b : Bool) → map id_of others ≡ cond b
        (without_id (map id_of (cond b (e.1 ∷ others) others)) id) (map id_of (cond b (e.1 ∷ others) others))
    here is true = rw is refl
    here is false = refl

    later : is_at (nat_cmp id) (id_of e.1) ≡ false → (left : List ChannelRow) (b d : Bool)
        → map id_of left ≡ cond b (without_id (map id_of others) id) (map id_of others)
        → map id_of (cond d (e.1 ∷ left) left) ≡ cond b
        (without_id (map id_of (cond d (e.1 ∷ others) others)) id) (map id_of (cond d (e.1 ∷ others) others))
    later past left true true is = rw (past, is) refl
    later past left true false is = is
    later past left false true is = rw is refl
    later past left false false is = is

    by : (lookup (is_at (nat_cmp id)) es ≡ Some row
        → ids_at (values_of (remove_entry (is_at (nat_cmp id)) es)) node
        ≡ cond (ends_at node row) (without_id (map id_of others) id) (map id_of others))
        → (t : Bool) → is_at (nat_cmp id) e.0 ≡ t → cond (is_at (nat_cmp id) e.0) (Some e.1) (lookup (is_at (nat_cmp id)) es) ≡ Some row
        → ids_at (values_of (cond (is_at (nat_cmp id) e.0) es (e ∷ remove_entry (is_at (nat_cmp id)) es))) node
        ≡ cond (ends_at node row) (without_id (ids_at (values_of (e ∷ es)) node) id) (ids_at (values_of (e ∷ es)) node)
    by rest true is found =
        let same : Some e.1 ≡ Some row = rw is at found in
        let row_is : e.1 ≡ row = cc in
        rw (is, ← row_is) (here (ap (is_at (nat_cmp id)) (sym keyed.0) ∙ is) (ends_at node e.1))
    by rest false is found =
        rw is (later (ap (is_at (nat_cmp id)) (sym keyed.0) ∙ is)
        (filter (ends_at node) (values_of (remove_entry (is_at (nat_cmp id)) es))) (ends_at node row)
        (ends_at node e.1) (rest (rw is at found)))

-- a node that had a channel: its announcement stays unless it was a node of the removed channel and has no other
stays : (channels : List ChannelRow) (new : List ChannelRow) (ends : List (Point × List ℕ)) (first second : Point) (row : NodeRow)
    → ((node : Point) → (is_point first node || is_point second node) ≡ false → ids_at new node ≡ ids_at channels node)
    → ((node : Point) → is_some (entry_of ends node) ≡ ends_channel new node)
    → ends_channel channels row.message.node_id ≡ true
    → (stays_beside ends first row && stays_beside ends second row) ≡ ends_channel new row.message.node_id
stays channels new ends first second row apart index ended = by (is_point first row.message.node_id) refl (is_point second row.message.node_id) refl
  where
    at : (node : Point) → is_point node row.message.node_id ≡ true → is_some (entry_of ends node) ≡ ends_channel new row.message.node_id
    at node is = index node ∙ ap (ends_channel new) (same_point node row.message.node_id is)

    twice : (b : Bool) → (b && b) ≡ b
    twice b = grind arith

    ended_still : is_point first row.message.node_id ≡ false → is_point second row.message.node_id ≡ false
        → ends_channel new row.message.node_id ≡ true
    ended_still f s =
        sym (is_some-kept id_of (ends_at row.message.node_id) new) ∙ ap (λ ids. is_some (kept ids)) (apart row.message.node_id (rw (f, s) refl))
        ∙ is_some-kept id_of (ends_at row.message.node_id) channels ∙ ended

    by : (b : Bool) → is_point first row.message.node_id ≡ b → (d : Bool) → is_point second row.message.node_id ≡ d
        → (stays_beside ends first row && stays_beside ends second row) ≡ ends_channel new row.message.node_id
    by true f true s =
        rw (f, s, at first f, at second s, or_false (ends_channel new row.message.node_id))
        (twice (ends_channel new row.message.node_id))
    by true f false s =
        rw (
          f,
          s,
          at first f,
          or_false (ends_channel new row.message.node_id),
          or_right (is_some (entry_of ends second)) true refl,
        ) (and_true (ends_channel new row.message.node_id))
    by false f true s = rw (f, s, at second s, or_false (ends_channel new row.message.node_id), or_right (is_some (entry_of ends first)) true refl) refl
    by false f false s = rw (f, s, or_right (is_some (entry_of ends first)) true refl, or_right (is_some (entry_of ends second)) true refl) (sym (ended_still f s))

-- the nodes that are left
pub ended_nodes-left : (channels new : List ChannelRow) (ends : List (Point × List ℕ)) (first second : Point) (nodes : List NodeRow)
    → ((node : Point) → (is_point first node || is_point second node) ≡ false → ids_at new node ≡ ids_at channels node)
    → ((node : Point) → is_some (entry_of ends node) ≡ ends_channel new node)
    → AreEnded channels nodes
    → filter (stays_beside ends second) (filter (stays_beside ends first) nodes) ≡ ended_nodes new nodes
ended_nodes-left channels new ends first second nodes apart index ended =
    filter-filter _ _ nodes ∙ filter-alike _ _ nodes (along nodes ended)
  where
    along : (rows : List NodeRow) → AreEnded channels rows
        → AllByRecursion (λ row. (stays_beside ends first row && stays_beside ends second row)
        ≡ ends_channel new row.message.node_id) rows
    along [] ended = tt
    along (row ∷ rows) ended = (stays channels new ends first second row apart index ended.0, along rows ended.1)

-- these have a channel
pub AreEnded-ended_nodes : (channels : List ChannelRow) (nodes : List NodeRow) → AreEnded channels (ended_nodes channels nodes)
AreEnded-ended_nodes channels [] = tt
AreEnded-ended_nodes channels (row ∷ rows) = by (AreEnded-ended_nodes channels rows) (ends_channel channels row.message.node_id) refl
  where
    by : AreEnded channels (ended_nodes channels rows) → (b : Bool) → ends_channel channels row.message.node_id ≡ b
        → AreEnded channels (cond (ends_channel channels row.message.node_id) (row ∷ ended_nodes channels rows) (ended_nodes channels rows))
    by others true is = rw is (is, others)
    by others false is = rw is others

-- the maps after a close
pub record IsClosed (stored new : List (ℕ × ChannelInfo)) (nodes new_nodes : List (Point × NodeRow)) (ends : List (Point × List ℕ)) (id : ℕ) : Type 0 where
  pub channels_left : values_of (channel_entries new) ≡ channels_without (values_of (channel_entries stored)) id
  pub updates_left : values_of (update_entries new) ≡ updates_without (values_of (update_entries stored)) id
  pub nodes_left : values_of new_nodes ≡ ended_nodes (values_of (channel_entries new)) (values_of nodes)
  pub sound : IsSound (channel_entries new) (update_entries new) new_nodes ends

pub closed : (stored new : List (ℕ × ChannelInfo)) (nodes mid new_nodes : List (Point × NodeRow)) (ends ends' : List (Point × List ℕ))
    → (id : ℕ) (gone : ChannelInfo) (first second : Point) → first ≡ gone.channel.message.node_id_1 → second ≡ gone.channel.message.node_id_2
    → new ≡ remove_entry (is_at (nat_cmp id)) stored → lookup (is_at (nat_cmp id)) stored ≡ Some gone
    → IsStrictlySortedBy nat_cmp (keys_of stored) → IsStrictlySortedBy nat_cmp (keys_of new)
    → ((ids : Point → List ℕ) → Lists ends ids → Lists ends' (changed (λ list. without_id list id) ids first second))
    → values_of mid ≡ filter (stays_beside ends' first) (values_of nodes) → values_of new_nodes ≡ filter (stays_beside ends' second) (values_of mid)
    → IsKeyed point_of new_nodes → IsStrictlySortedBy point_cmp (keys_of new_nodes)
    → IsSound (channel_entries stored) (update_entries stored) nodes ends
    → IsClosed stored new nodes new_nodes ends' id
closed stored new nodes mid new_nodes ends ends' id gone first second first_is second_is is found ascend ascend'
    removes one two nodes_keyed nodes_ascend sound =
    let channels = channel_entries stored in
    let left_channels = channel_entries new in
    let channels_is : left_channels ≡ remove_entry (is_at (nat_cmp id)) channels =
    ap channel_entries is ∙ remove-channels (is_at (nat_cmp id)) stored in
    let found' : lookup (is_at (nat_cmp id)) channels ≡ Some gone.channel =
    lookup-channels (is_at (nat_cmp id)) stored ∙ ap (option_map (λ h. h.channel)) found in
    let ids : (node : Point) → ids_at (values_of left_channels) node
    ≡ changed (λ list. without_id list id) (ids_at (values_of channels)) first second node =
    λ node. rw (first_is, second_is, channels_is) (ids_at-remove id gone.channel node channels sound.channels_keyed found') in
    let listed : Lists ends' (ids_at (values_of left_channels)) =
    λ node. removes (ids_at (values_of channels)) sound.listed node ∙ ap kept (sym (ids node)) in
    let left : values_of new_nodes ≡ ended_nodes (values_of left_channels) (values_of nodes) =
    two ∙ ap (filter (stays_beside ends' second)) one
    ∙ ended_nodes-left (values_of channels) (values_of left_channels) ends' first second (values_of nodes)
    (λ node is. ids node ∙ rw is refl) (λ node. ends-listed ends' (values_of left_channels) node listed)
    sound.nodes_ended in
    record {
      channels_left = values-no_channel channels left_channels id channels_is sound.channels_keyed sound.channels_ascend;
      updates_left = ap (λ es. values_of (update_entries es)) is ∙ values-without id stored ascend sound.updates_keyed;
      nodes_left = left;
      sound = record {
        channels_keyed = rw channels_is (IsKeyed-remove nat_cmp id_of (is_at (nat_cmp id)) channels sound.channels_keyed);
        updates_keyed = rw is (keyed-without (is_at (nat_cmp id)) stored sound.updates_keyed);
        nodes_keyed = nodes_keyed;
        channels_ascend = rw (keys-channels new) ascend';
        updates_ascend = ascend-updates new ascend';
        nodes_ascend = nodes_ascend;
        nodes_ended = rw left (AreEnded-ended_nodes (values_of left_channels) (values_of nodes));
        listed = listed;
      };
    }

-- closing a channel that isn't there
pub IsSound-unchanged : (stored new : List (ℕ × ChannelInfo)) (nodes : List (Point × NodeRow)) (ends : List (Point × List ℕ))
    → new ≡ stored → IsSound (channel_entries stored) (update_entries stored) nodes ends → IsSound (channel_entries new) (update_entries new) nodes ends
IsSound-unchanged stored new nodes ends is sound = rw is sound
