use Rattle.std.proofs.Common.{◌≡◌, ℕ, Bool, true, false, List, None, Ok, refl, sym, ◌∙◌, ap, subst}
use Rattle.std.specs.Prelude.{is_some}
use Rattle.lgm_gossip.specs.Message.{Wire}
use Rattle.lgm_gossip.specs.declared.message.Message.TheVariants as wired
use Rattle.std.specs.List.Sorted.{IsStrictlySortedBy}
use Rattle.std.specs.Map.{lookup, remove_entry, keys_of, values_of}
use Rattle.std.specs.Option.{option_map}
use Rattle.std.specs.BTreeMap.{is_at, insert_entry}
use Rattle.std.specs.Ordering.{nat_cmp}
use Rattle.std.proofs.lemmas.Bool.{or_right}
use Rattle.lgm_check.specs.declared.row.ChannelRow.{ChannelRow}
use Rattle.lgm_store.specs.declared.channel_info.ChannelInfo.{ChannelInfo}
use Rattle.lgm_store.specs.inner.ChannelEntries.{alone, channel_entries, update_entries}
use Rattle.lgm_store.specs.inner.ChannelTable.{id_in}
use Rattle.lgm_store.specs.Keys.{IsKeyed, id_of}
use Rattle.lgm_store.specs.Rows.{put, by_id, ends_banned, channel_of}
use Rattle.lgm_store.proofs.ListLaws.{All-put}
use Rattle.lgm_store.proofs.Lists.{values-channel}
use Rattle.lgm_store.proofs.ChannelMapLaws.{lookup-channels, insert-channels, insert-updates, remove-inserted}
use Rattle.lgm_store.proofs.Soundness.{IsSound-stored, IsSound-listed, lacks}
use Rattle.lgm_store.proofs.Changes.{is_stored, with_channel-new, with_channel-stored, with_channel-banned, banned-by}
use Rattle.lgm_store.proofs.SpelledRowLaws.{AllSpelled-channel}
use Rattle.lgm_store.proofs.map.Opened.{opened}
use Rattle.lgm_store.proofs.map.Map.add_channel.Goals as goal
use Rattle.lgm_store.proofs.map.Map.add_channel.Goals.{Joined-add, Joined-stored-2, After-self-then-not-branch-1, in-Ok, in-Err}

-- ---- it isn't added

-- one of its nodes is banned
is_banned : (c : Joined-stored-2) → ends_banned c.args.self.now.banned c.args.row.now ≡ true
is_banned c =
    let parts = opened c.deref_mut-parts.ensures.value c.self.invariant c.self.view_is in
    let stored = c.new-stored.ensures ∙ ap alone c.in_ok-share.ensures in
    let banned =
    banned-by c.deref_mut-parts.result.now.banned c.args.row.now c.node.result.now c.node-2.result.now c.contains_either.result
    c.contains_either.ensures (c.node.ensures ∙ ap (λ h. h.channel.message.node_id_1) stored)
    (c.node-2.ensures ∙ ap (λ h. h.channel.message.node_id_2) stored) in
    ap (λ rows. ends_banned rows.banned c.args.row.now) (sym parts.seen) ∙ sym banned ∙ c.if-contains_either.true

pub returns-then-contains_either-clause-ok : goal.returns-then-contains_either-clause-ok
returns-then-contains_either-clause-ok c =
    let parts = opened c.deref_mut-parts.ensures.value c.self.invariant c.self.view_is in
    parts.seen ∙ with_channel-banned c.args.self.now c.args.row.now (is_banned c)

pub returns-then-contains_either-clause-refused : goal.returns-then-contains_either-clause-refused
returns-then-contains_either-clause-refused c = λ _.
    or_right (is_some (channel_of c.args.self.now.channels c.args.row.now.message.short_channel_id))
    (ends_banned c.args.self.now.banned c.args.row.now) (is_banned c)

-- it is in the map
is_known : (c : After-self-then-not-branch-1) → is_some (channel_of c.args.self.now.channels c.args.row.now.message.short_channel_id) ≡ true
is_known c =
    let parts = opened c.deref_mut-parts.ensures.value c.self.invariant c.self.view_is in
    let stored = c.new-stored.ensures ∙ ap alone c.in_ok-share.ensures in
    let present : c.in_ok-insert.field-0 ≡ false = c.if-not-branch.true in
    let found = c.in_ok-insert.ensures.present (ap (λ (b : Bool). Ok b) present) in
    let here : is_some (lookup (is_at (nat_cmp c.args.row.now.message.short_channel_id)) c.deref_mut-parts.result.now.channels) ≡ true =
    rw stored at found in
    sym (is_stored c.deref_mut-parts.result.now.channels c.args.self.now.channels c.args.row.now.message.short_channel_id
    parts.kept.rows.channels_keyed (ap (λ rows. rows.channels) parts.seen)) ∙ here

pub returns-then-not-branch-clause-refused : goal.returns-then-not-branch-clause-refused
returns-then-not-branch-clause-refused c = λ _. rw (is_known c) refl

pub returns-then-not-branch-clause-ok : goal.returns-then-not-branch-clause-ok
returns-then-not-branch-clause-ok c =
    let parts = opened c.deref_mut-parts.ensures.value c.self.invariant c.self.view_is in
    let present : c.in_ok-insert.field-0 ≡ false = c.if-not-branch.true in
    let same : c.insert.new.self ≡ c.deref_mut-parts.result.now.channels = c.in_ok-insert.ensures.same (λ is. absurd cc) in
    rw same (parts.seen ∙ with_channel-stored c.args.self.now c.args.row.now (is_known c))

-- ---- it is new

-- what the table, and the arguments of its call, are
record IsAdded (entries new : List (ℕ × ChannelInfo)) (id : ℕ) (row : ChannelRow) : Type 0 where
  pub own : id ≡ id_of row
  pub none : lookup (is_at (nat_cmp id)) entries ≡ None
  pub is : new ≡ insert_entry nat_cmp entries id (alone row)

added : (entries new : List (ℕ × ChannelInfo)) (id : ℕ) (row : ChannelRow) (one : ChannelInfo) → one ≡ alone row → id ≡ id_in one
    → lookup (is_at (nat_cmp (id_in one))) entries ≡ None → new ≡ insert_entry nat_cmp entries (id_in one) one
    → IsAdded entries new id row
added entries new id row one one_is id_is none is = record {
  own = id_is ∙ ap id_in one_is;
  none = rw id_is none;
  is = is ∙ ap (λ h. insert_entry nat_cmp entries (id_in h) h) one_is
      ∙ ap (λ (k : ℕ). insert_entry nat_cmp entries k (alone row)) (sym (id_is ∙ ap id_in one_is));
}

-- the rows then
placed : (entries new : List (ℕ × ChannelInfo)) (id : ℕ) (row : ChannelRow) → IsAdded entries new id row
    → IsKeyed id_of (channel_entries entries) → IsStrictlySortedBy nat_cmp (keys_of (channel_entries entries))
    → values_of (channel_entries new) ≡ put by_id (values_of (channel_entries entries)) row
placed entries new id row its keyed ascend =
    values-channel (channel_entries entries) (channel_entries new) id row its.own
    (ap channel_entries its.is ∙ insert-channels id (alone row) entries) keyed ascend

same_updates : (entries new : List (ℕ × ChannelInfo)) (id : ℕ) (row : ChannelRow) → IsAdded entries new id row
    → values_of (update_entries new) ≡ values_of (update_entries entries)
same_updates entries new id row its =
    ap (λ es. values_of (update_entries es)) its.is ∙ ap values_of (insert-updates id row entries its.none)

-- the row and its slot
own : (c : Joined-add) → IsAdded c.deref_mut-parts.result.now.channels c.insert.new.self c.scid-scid.result c.args.row.now
own c =
    let stored = c.new-stored.ensures ∙ ap alone c.in_ok-share.ensures in
    let is_new = ap (λ (b : Bool). Ok b) c.if-not-branch.false in
    added c.deref_mut-parts.result.now.channels c.insert.new.self c.scid-scid.result c.args.row.now c.new-stored.result stored
    c.scid-scid.ensures (c.in_ok-insert.ensures.new is_new) (c.in_ok-insert.ensures.added is_new)

-- its nodes
first : (c : Joined-add) → c.node.result.now ≡ c.args.row.now.message.node_id_1
first c = c.node.ensures ∙ ap (λ h. h.channel.message.node_id_1) (c.new-stored.ensures ∙ ap alone c.in_ok-share.ensures)

second : (c : Joined-add) → c.node-2.result.now ≡ c.args.row.now.message.node_id_2
second c = c.node-2.ensures ∙ ap (λ h. h.channel.message.node_id_2) (c.new-stored.ensures ∙ ap alone c.in_ok-share.ensures)

-- none of them is banned
allowed : (c : Joined-add) → ends_banned c.deref_mut-parts.result.now.banned c.args.row.now ≡ false
allowed c =
    sym (banned-by c.deref_mut-parts.result.now.banned c.args.row.now c.node.result.now c.node-2.result.now
    c.contains_either.result c.contains_either.ensures (first c) (second c)) ∙ c.if-contains_either.false

-- the channel wasn't there
absent : (c : Joined-add) → is_some (channel_of c.args.self.now.channels c.args.row.now.message.short_channel_id) ≡ false
absent c =
    let parts = opened c.deref_mut-parts.ensures.value c.self.invariant c.self.view_is in
    let entries = c.deref_mut-parts.result.now.channels in
    let id = c.args.row.now.message.short_channel_id in
    let none : is_some (lookup (is_at (nat_cmp id)) entries) ≡ false =
    ap is_some (ap (λ (k : ℕ). lookup (is_at (nat_cmp k)) entries) (sym (own c).own) ∙ (own c).none) in
    sym (is_stored entries c.args.self.now.channels id parts.kept.rows.channels_keyed (ap (λ rows. rows.channels) parts.seen)) ∙ none

-- the channels as they were
restored : (entries new left : List (ℕ × ChannelInfo)) (id : ℕ) (row : ChannelRow) → IsAdded entries new id row
    → left ≡ remove_entry (is_at (nat_cmp id)) new → left ≡ entries
restored entries new left id row its left_is =
    left_is ∙ ap (remove_entry (is_at (nat_cmp id))) its.is ∙ remove-inserted id (alone row) entries its.none

pub invariant_of-self-2 : goal.invariant_of-self-2
invariant_of-self-2 c =
    let parts = opened c.deref_mut-parts.ensures.value c.self.invariant c.self.view_is in
    let now = c.deref_mut-parts.result.now in
    let entries = now.channels in
    let new = c.insert.new.self in
    let id = c.scid-scid.result in
    let row = c.args.row.now in
    let its = own c in
    let is_new = ap (λ (b : Bool). Ok b) c.if-not-branch.false in
    let put_is =
    placed entries new id row its parts.kept.rows.channels_keyed parts.kept.rows.channels_ascend in
    elim c.match-add.branch [
      | in-Ok w ↦ rw w.self-inside-is (record {
        rows =
            IsSound-stored entries new now.nodes now.ends c.add.new.self id row
            c.node.result.now c.node-2.result.now its.own (first c) (second c) its.is its.none
            (c.in_ok-insert.ensures.ascend is_new) w.in-Ok.ensures.ok parts.kept.rows;
        spelled =
            AllSpelled-channel (values_of (channel_entries entries)) (values_of (channel_entries new))
            (values_of (update_entries entries)) (values_of (update_entries new)) (values_of now.nodes) row
            (subst (λ (row : ChannelRow). Wire (wired.Announce row.message) row.raw) c.get.ensures c.bytes_encode_row.ensures) put_is
            (same_updates entries new id row its) parts.kept.spelled;
        banned_ascend = parts.kept.banned_ascend;
        allowed =
            rw (put_is) (All-put (λ row. ends_banned now.banned row ≡ false) by_id
            (values_of (channel_entries entries)) row (allowed c) parts.kept.allowed);
      })
      | in-Err w ↦
          let left = restored entries new w.discard.new.self id row its w.discard.ensures.left in
          let none_stored =
          lookup-channels (is_at (nat_cmp id)) entries ∙ ap (option_map (λ stored. stored.channel)) its.none in
          rw (w.self-inside-is, left) (record {
            rows =
                IsSound-listed (channel_entries entries) (update_entries entries) now.nodes now.ends c.add.new.self
                (w.in-Err.ensures.err _ parts.kept.rows.listed (lacks id (channel_entries entries)
                parts.kept.rows.channels_keyed none_stored)) parts.kept.rows;
            spelled = parts.kept.spelled;
            banned_ascend = parts.kept.banned_ascend;
            allowed = parts.kept.allowed;
          })
    ]

pub returns-clause-ok : goal.returns-clause-ok
returns-clause-ok c =
    let parts = opened c.deref_mut-parts.ensures.value c.self.invariant c.self.view_is in
    let entries = c.deref_mut-parts.result.now.channels in
    let row = c.args.row.now in
    elim c.match-add.branch [
      | in-Ok w ↦
          let put_is =
          placed entries c.insert.new.self c.scid-scid.result row (own c) parts.kept.rows.channels_keyed parts.kept.rows.channels_ascend in
          rw (w.result-is, w.self-inside-is) (with_channel-new c.args.self.now _ row (absent c)
          (ap (λ rows. ends_banned rows.banned row) (sym parts.seen) ∙ allowed c)
          (put_is ∙ ap (λ rows. put by_id rows.channels row) parts.seen)
          (same_updates entries c.insert.new.self c.scid-scid.result row (own c) ∙ ap (λ rows. rows.updates) parts.seen)
          (ap (λ rows. rows.nodes) parts.seen) (ap (λ rows. rows.banned) parts.seen))
      | in-Err w ↦ rw w.result-is tt
    ]

pub returns-clause-new : goal.returns-clause-new
returns-clause-new c = λ _. absent c

pub returns-clause-allowed : goal.returns-clause-allowed
returns-clause-allowed c = λ _.
    let parts = opened c.deref_mut-parts.ensures.value c.self.invariant c.self.view_is in
    ap (λ rows. ends_banned rows.banned c.args.row.now) (sym parts.seen) ∙ allowed c

pub returns-clause-same : goal.returns-clause-same
returns-clause-same c =
    let parts = opened c.deref_mut-parts.ensures.value c.self.invariant c.self.view_is in
    elim c.match-add.branch [
      | in-Ok w ↦ λ other. absurd (other w.result-is)
      | in-Err w ↦ λ _. rw (
        w.self-inside-is,
        restored c.deref_mut-parts.result.now.channels c.insert.new.self w.discard.new.self
            c.scid-scid.result c.args.row.now (own c) w.discard.ensures.left,
      ) parts.seen
    ]
