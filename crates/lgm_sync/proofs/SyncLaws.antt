-- What a map lacks of a peer's channels is told, and nothing is passed over.
use Rattle.std.proofs.Common.{◌≡◌, ℕ, zero, suc, ◌*◌, ◌+◌, ◌<◌, ◌≤◌, Bool, true, false, List, [], ◌∷◌, ◌++◌, length, map, take, drop, Option, Some, None, refl, sym, ap, subst, ◌∙◌, arith, ◌⊎◌, inl, inr, cond}
use Rattle.std.specs.Prelude.{nat_eq, nat_lt, ◌==◌, slice_index_or, is_some}
use Rattle.std.specs.Cmp.Lexicographic.{pointwise, bytes_decides}
use Rattle.std.specs.List.{AllByRecursion, Contains, filter, flat_map, range_with_len}
use Rattle.std.specs.List.Sorted.{IsStrictlySortedBy}
use Rattle.std.specs.declared.cmp.Ordering.TheVariants.{Less, Equal, Greater}
use Rattle.std.specs.Ordering.{nat_cmp}
use Rattle.std.proofs.lemmas.Bool.{ltb-false, le-ltb}
use Rattle.std.proofs.lemmas.Bool.Decides.{nat_tests}
use Rattle.std.proofs.lemmas.List.Elements.{Contains-append_left, Contains-append_right, Contains-append_cases}
use Rattle.std.proofs.lemmas.List.Kept.{IsStrictlySortedBy-filter}
use Rattle.lgm_wire.specs.declared.chain_hash.ChainHash.{ChainHash}
use Rattle.lgm_gossip.specs.declared.message.Message.TheVariants as messages
use Rattle.lgm_gossip.specs.declared.range_query.RangeQuery.{RangeQuery}
use Rattle.lgm_gossip.specs.RangeReply.{ReplyFields}
use Rattle.lgm_gossip.specs.Spelling.{spelling}
use Rattle.lgm_check.specs.declared.row.ChannelRow.{ChannelRow}
use Rattle.lgm_store.specs.ChannelWithUpdates.{timestamp_of}
use Rattle.lgm_store.specs.Reading.{is_between}
use Rattle.lgm_store.specs.Rows.{Rows, IsAscending, by_id, channel_of, update_of}
use Rattle.lgm_query.specs.Cover.{CoverRange}
use Rattle.lgm_query.specs.RangeReply.{range_end, ids_asked_for, reply_count, ids_at, reply, range_reply, timestamps_of, asks_for_timestamps}
use Rattle.lgm_sync.specs.declared.lacking.Lacking.{Lacking}
use Rattle.lgm_sync.specs.Lacking.{if_newer, flags_beside, flags_lacking, entry, is_behind, entry_behind, latest, lacking_in, lacking_of, times_of}
use Rattle.lgm_sync.specs.Synchronized.{replies_of, lacking_of_all, AsksForTimes, IsAsked, HasAsNew, IsToldLacking}

-- ---- ids that ascend

ids_ascend : (rows : List ChannelRow) → IsStrictlySortedBy by_id rows → IsStrictlySortedBy nat_cmp (map (λ row. row.message.short_channel_id) rows)
unfolding IsStrictlySortedBy
ids_ascend [] sorted = tt
ids_ascend (row ∷ rows) sorted = (along rows sorted.0, ids_ascend rows sorted.1)
  where
    along : (rows : List ChannelRow) → AllByRecursion (λ other. by_id row other ≡ Less) rows
        → AllByRecursion (λ id. nat_cmp row.message.short_channel_id id ≡ Less) (map (λ other. other.message.short_channel_id) rows)
    along [] all = tt
    along (other ∷ others) all = (all.0, along others all.1)

none_ascend : IsStrictlySortedBy nat_cmp []
unfolding IsStrictlySortedBy
none_ascend = tt

asked_ascend : (chain : ChainHash) (rows : Rows) (query : RangeQuery) → IsStrictlySortedBy by_id rows.channels
    → IsStrictlySortedBy nat_cmp (ids_asked_for chain rows query)
asked_ascend chain rows query sorted = by (pointwise nat_eq query.chain_hash.0 chain.0) refl
  where
    by : (b : Bool) → pointwise nat_eq query.chain_hash.0 chain.0 ≡ b → IsStrictlySortedBy nat_cmp (ids_asked_for chain rows query)
    by true is =
        rw is (IsStrictlySortedBy-filter nat_cmp (λ id. is_between id query.first_blocknum (range_end query))
        _ (ids_ascend rows.channels sorted))
    by false is = rw is none_ascend

all_taken : (P : ℕ → Type 0) (n : ℕ) (xs : List ℕ) → AllByRecursion P xs → AllByRecursion P (take n xs)
all_taken P zero xs all = tt
all_taken P (suc n) [] all = tt
all_taken P (suc n) (x ∷ xs) all = (all.0, all_taken P n xs all.1)

taken_ascend : (n : ℕ) (ids : List ℕ) → IsStrictlySortedBy nat_cmp ids → IsStrictlySortedBy nat_cmp (take n ids)
unfolding IsStrictlySortedBy
taken_ascend zero ids sorted = tt
taken_ascend (suc n) [] sorted = tt
taken_ascend (suc n) (id ∷ ids) sorted = (all_taken (λ other. nat_cmp id other ≡ Less) n ids sorted.0, taken_ascend n ids sorted.1)

left_ascend : (n : ℕ) (ids : List ℕ) → IsStrictlySortedBy nat_cmp ids → IsStrictlySortedBy nat_cmp (drop n ids)
unfolding IsStrictlySortedBy
left_ascend zero ids sorted = sorted
left_ascend (suc n) [] sorted = tt
left_ascend (suc n) (id ∷ ids) sorted = left_ascend n ids sorted.1

-- ---- what is contained

first_or_later : {X : Type 0} (y : X) (ys : List X) (x : X) (k : ℕ) → k < length (y ∷ ys) → slice_index_or (y ∷ ys) k x ≡ x
    → (y ≡ x) ⊎ Contains ys x
first_or_later y ys x zero within is = inl is
first_or_later y ys x (suc k) within is = inr (k, omega arith, is)

pub later : {X : Type 0} (y : X) (ys : List X) (x : X) → Contains ys x → Contains (y ∷ ys) x
later y ys x at = (suc at.0, omega (arith, at.1), at.2)

pub in_map : {X Y : Type 0} (f : X → Y) (xs : List X) (x : X) (k : ℕ) → k < length xs → slice_index_or xs k x ≡ x → Contains (map f xs) (f x)
in_map f [] x k within is = absurd (omega arith)
in_map f (y ∷ ys) x zero within is = (zero, omega arith, ap f is)
in_map f (y ∷ ys) x (suc k) within is = later (f y) (map f ys) (f x) (in_map f ys x k (omega arith) is)

pub in_filter : {X : Type 0} (p : X → Bool) (xs : List X) (x : X) → p x ≡ true → (k : ℕ) → k < length xs → slice_index_or xs k x ≡ x → Contains (filter p xs) x
in_filter p [] x holds k within is = absurd (omega arith)
in_filter p (y ∷ ys) x holds k within is =
    by (p y) refl (first_or_later y ys x k within is) (λ others. in_filter p ys x holds others.0 others.1 others.2)
  where
    by : (b : Bool) → p y ≡ b → (y ≡ x) ⊎ Contains ys x → (Contains ys x → Contains (filter p ys) x) → Contains (filter p (y ∷ ys)) x
    by true e (inl first) kept = rw e (zero, omega arith, first)
    by true e (inr others) kept = rw e (later y (filter p ys) x (kept others))
    by false e (inl first) kept = let bad : false ≡ true = sym e ∙ ap p first ∙ holds in absurd cc
    by false e (inr others) kept = rw e (kept others)

-- a channel in the range is among the ids that are replied
is_replied : (chain : ChainHash) (rows : Rows) (query : RangeQuery) (row : ChannelRow) → query.chain_hash ≡ chain → IsAsked rows query row
    → Contains (ids_asked_for chain rows query) row.message.short_channel_id
is_replied chain rows query row own asked =
    let same : pointwise nat_eq query.chain_hash.0 chain.0 ≡ true =
    (bytes_decides query.chain_hash.0 chain.0).1 (ap (λ (c : ChainHash). c.0) own) in
    let id = in_map (λ (r : ChannelRow). r.message.short_channel_id) rows.channels row asked.held.0 asked.held.1 asked.held.2 in
    rw same (in_filter (λ id. is_between id query.first_blocknum (range_end query)) _ _ asked.within id.0 id.1 id.2)

-- ---- what is lacking of one channel

not_newer : (own peers flag : ℕ) → 0 < flag → if_newer own peers flag ≡ 0 → peers ≤ own
not_newer own peers flag some none = by (nat_lt own peers) refl
  where
    by : (b : Bool) → nat_lt own peers ≡ b → peers ≤ own
    by true e = let bad : flag ≡ 0 = rw e at none in absurd (omega arith)
    by false e = ltb-false own peers e

no_flag : (a b : ℕ) → a + b ≡ 0 → (a ≡ 0) × (b ≡ 0)
no_flag a b none = (omega arith, omega arith)

not_all : (flags : ℕ) → flags ≡ 31 → flags ≡ 0 → ⊥
not_all flags all none = omega arith

as_new : (own peer : Rows) (id : ℕ) → flags_lacking own id (timestamps_of peer id) ≡ 0 → HasAsNew own peer id
as_new own peer id none = by (channel_of own.channels id) refl
  where
    by : (found : Option ChannelRow) → channel_of own.channels id ≡ found → HasAsNew own peer id
    by None e =
        absurd (not_all (flags_lacking own id (timestamps_of peer id))
        (ap (λ (f : Option ChannelRow). flags_beside f own id (timestamps_of peer id)) e) none)
    by (Some row) e =
        let neither = no_flag (if_newer (timestamp_of (update_of own.updates id false)) (timestamp_of (update_of peer.updates id false)) 2)
        (if_newer (timestamp_of (update_of own.updates id true)) (timestamp_of (update_of peer.updates id true)) 4)
        (sym (ap (λ (f : Option ChannelRow). flags_beside f own id (timestamps_of peer id)) e) ∙ none) in
        record {
          channel = ap is_some e;
          first = not_newer _ _ 2 (omega arith) neither.0;
          second = not_newer _ _ 4 (omega arith) neither.1;
        }

is_none : (a : ℕ) → (a == 0) ≡ true → a ≡ 0
is_none a e = grind (arith, nat_tests)

is_zero : (a : ℕ) → a ≡ 0 → (a == 0) ≡ true
is_zero a e = grind (arith, nat_tests)

one_told : (own peer : Rows) (id : ℕ) → HasAsNew own peer id ⊎ IsToldLacking own peer (entry own id (timestamps_of peer id)) id
one_told own peer id = by (flags_lacking own id (timestamps_of peer id) == 0) refl
  where
    by : (b : Bool) → (flags_lacking own id (timestamps_of peer id) == 0) ≡ b
        → HasAsNew own peer id ⊎ IsToldLacking own peer (entry own id (timestamps_of peer id)) id
    by true e = inl (as_new own peer id (is_none _ e))
    by false e =
        inr (record {
          entry = record { scid = id; flags = flags_lacking own id (timestamps_of peer id); times = timestamps_of peer id };
          given = rw e (zero, omega arith, refl);
          channel = refl;
          flags = refl;
          times = refl;
        })

-- what is told remains told among more
among : (own peer : Rows) (found more : List Lacking) (id : ℕ) → ((one : Lacking) → Contains found one → Contains more one)
    → IsToldLacking own peer found id → IsToldLacking own peer more id
among own peer found more id so told = record {
  entry = told.entry;
  given = so told.entry told.given;
  channel = told.channel;
  flags = told.flags;
  times = told.times;
}

-- ---- of a reply

pub less_is_below : (a b : ℕ) → nat_cmp a b ≡ Less → nat_lt a b ≡ true
less_is_below a b less = by (nat_lt a b) refl
  where
    other : (c : Bool) → cond c Equal Greater ≡ Less → ⊥
    other true e = absurd cc
    other false e = absurd cc

    by : (t : Bool) → nat_lt a b ≡ t → nat_lt a b ≡ true
    by true e = e
    by false e = absurd (other (a == b) (rw e at less))

behind_first : (id : ℕ) (ids : List ℕ) → AllByRecursion (λ other. nat_cmp id other ≡ Less) ids
    → AllByRecursion (λ other. is_behind (Some id) other ≡ true) ids
behind_first id [] all = tt
behind_first id (other ∷ others) all = (less_is_below id other all.0, behind_first id others all.1)

behind_none : (ids : List ℕ) → AllByRecursion (λ other. is_behind None other ≡ true) ids
behind_none [] = tt
behind_none (id ∷ ids) = (refl, behind_none ids)

one_more : (own peer : Rows) (after : Option ℕ) (id : ℕ) (ids : List ℕ) → is_behind after id ≡ true
    → lacking_in own after (id ∷ ids) (map (timestamps_of peer) (id ∷ ids))
    ≡ entry own id (timestamps_of peer id) ++ lacking_in own (Some id) ids (map (timestamps_of peer) ids)
one_more own peer after id ids behind = rw behind refl

some_told : (own peer : Rows) (after : Option ℕ) (ids : List ℕ) → IsStrictlySortedBy nat_cmp ids
    → AllByRecursion (λ id. is_behind after id ≡ true) ids → (id : ℕ) → Contains ids id
    → HasAsNew own peer id ⊎ IsToldLacking own peer (lacking_in own after ids (map (timestamps_of peer) ids)) id
unfolding IsStrictlySortedBy
some_told own peer after [] sorted behind id at = absurd (omega (arith, at.1))
some_told own peer after (first ∷ others) sorted behind id at =
    let one = entry own first (timestamps_of peer first) in
    let rest = lacking_in own (Some first) others (map (timestamps_of peer) others) in
    let whole = one_more own peer after first others behind.0 in
    subst (λ (found : List Lacking). HasAsNew own peer id ⊎ IsToldLacking own peer found id) (sym whole)
    (elim (first_or_later first others id at.0 at.1 at.2) [
      | inl is ↦
          subst (λ (it : ℕ). HasAsNew own peer it ⊎ IsToldLacking own peer (one ++ rest) it) is (elim (one_told own peer first) [
            | inl has ↦ inl has
            | inr told ↦ inr (among own peer one (one ++ rest) first (λ it. Contains-append_left one rest it) told)
          ])
      | inr more ↦
          elim (some_told own peer (Some first) others sorted.1 (behind_first first others sorted.0) id more) [
            | inl has ↦ inl has
            | inr told ↦ inr (among own peer rest (one ++ rest) id (λ it. Contains-append_right one rest it) told)
          ]
    ])

piece_told : (own peer : Rows) (query : RangeQuery) (ids : List ℕ) (place : ℕ) → asks_for_timestamps query ≡ true
    → IsStrictlySortedBy nat_cmp ids → (id : ℕ) → Contains (ids_at ids place) id
    → HasAsNew own peer id ⊎ IsToldLacking own peer (lacking_of own (reply peer query ids place)) id
piece_told own peer query ids place asks sorted id at =
    let piece = ids_at ids place in
    let times : times_of (reply peer query ids place) ≡ map (timestamps_of peer) piece = rw asks refl in
    let told = some_told own peer None piece (taken_ascend 4000 (drop (4000 * place) ids) (left_ascend (4000 * place) ids sorted))
    (behind_none piece) id at in
    subst (λ times. HasAsNew own peer id ⊎ IsToldLacking own peer (lacking_in own None piece times) id) (sym times) told

-- ---- of all replies

all_told : (own peer : Rows) (query : RangeQuery) (ids places : List ℕ) → asks_for_timestamps query ≡ true
    → IsStrictlySortedBy nat_cmp ids → (id : ℕ) → Contains (flat_map (ids_at ids) places) id
    → HasAsNew own peer id ⊎ IsToldLacking own peer (lacking_of_all own (map (reply peer query ids) places)) id
all_told own peer query ids [] asks sorted id at = absurd (omega (arith, at.1))
all_told own peer query ids (place ∷ places) asks sorted id at =
    let one = lacking_of own (reply peer query ids place) in
    let rest = lacking_of_all own (map (reply peer query ids) places) in
    elim (Contains-append_cases (ids_at ids place) (flat_map (ids_at ids) places) id at) [
      | inl here ↦
          elim (piece_told own peer query ids place asks sorted id here) [
            | inl has ↦ inl has
            | inr told ↦ inr (among own peer one (one ++ rest) id (λ it. Contains-append_left one rest it) told)
          ]
      | inr more ↦
          elim (all_told own peer query ids places asks sorted id more) [
            | inl has ↦ inl has
            | inr told ↦ inr (among own peer rest (one ++ rest) id (λ it. Contains-append_right one rest it) told)
          ]
    ]

pub told : (chain : ChainHash) (own peer : Rows) (query : RangeQuery) (row : ChannelRow) → IsAscending peer
    → CoverRange query (ids_asked_for chain peer query) → AsksForTimes chain query → IsAsked peer query row
    → HasAsNew own peer row.message.short_channel_id
    ⊎ IsToldLacking own peer (lacking_of_all own (replies_of chain peer query)) row.message.short_channel_id
told chain own peer query row ascend cover asks asked =
    let ids = ids_asked_for chain peer query in
    let id = row.message.short_channel_id in
    all_told own peer query ids (range_with_len 0 (reply_count ids)) asks.times (asked_ascend chain peer query ascend.channels) id
    (subst (λ (all : List ℕ). Contains all id) (sym cover.whole) (is_replied chain peer query row asks.own asked))

pub done : (chain : ChainHash) (own peer : Rows) (query : RangeQuery) (row : ChannelRow) → IsAscending peer
    → CoverRange query (ids_asked_for chain peer query) → AsksForTimes chain query → IsAsked peer query row
    → lacking_of_all own (replies_of chain peer query) ≡ [] → HasAsNew own peer row.message.short_channel_id
done chain own peer query row ascend cover asks asked none =
    elim (told chain own peer query row ascend cover asks asked) [
      | inl has ↦ has
      | inr told ↦ absurd (omega (arith, told.given.1, ap length none))
    ]

-- ---- what is told is lacking

none_newer : (own peers flag : ℕ) → peers ≤ own → if_newer own peers flag ≡ 0
none_newer own peers flag le = rw (le-ltb own peers le) refl

no_flags : (own peer : Rows) (id : ℕ) → HasAsNew own peer id → flags_lacking own id (timestamps_of peer id) ≡ 0
no_flags own peer id has = by (channel_of own.channels id) refl
  where
    by : (found : Option ChannelRow) → channel_of own.channels id ≡ found → flags_lacking own id (timestamps_of peer id) ≡ 0
    by None e = let bad : false ≡ true = sym (ap is_some e) ∙ has.channel in absurd cc
    by (Some row) e =
        ap (λ (f : Option ChannelRow). flags_beside f own id (timestamps_of peer id)) e
        ∙ rw (none_newer _ _ 2 has.first, none_newer _ _ 4 has.second) refl

entry_lacks : (own peer : Rows) (id : ℕ) (one : Lacking) → Contains (entry own id (timestamps_of peer id)) one
    → HasAsNew own peer one.scid → ⊥
entry_lacks own peer id one at has = by (flags_lacking own id (timestamps_of peer id) == 0) refl
  where
    by : (b : Bool) → (flags_lacking own id (timestamps_of peer id) == 0) ≡ b → ⊥
    by true e = let none = rw e at at in absurd (omega (arith, none.1))
    by false e =
        let only = rw e at at in
        elim (first_or_later _ [] one only.0 only.1 only.2) [
          | inl is ↦
              let same : one.scid ≡ id = sym (ap (λ (it : Lacking). it.scid) is) in
              let zero_flags = no_flags own peer id (subst (HasAsNew own peer) same has) in
              let bad : false ≡ true = sym e ∙ is_zero _ zero_flags in
              absurd cc
          | inr others ↦ absurd (omega (arith, others.1))
        ]

some_lack : (own peer : Rows) (after : Option ℕ) (ids : List ℕ) (one : Lacking)
    → Contains (lacking_in own after ids (map (timestamps_of peer) ids)) one → HasAsNew own peer one.scid → ⊥
some_lack own peer after [] one at has = absurd (omega (arith, at.1))
some_lack own peer after (id ∷ ids) one at has =
    elim (Contains-append_cases (entry_behind own after id (timestamps_of peer id))
    (lacking_in own (latest after id) ids (map (timestamps_of peer) ids)) one at) [
      | inl here ↦ by (is_behind after id) refl here
      | inr more ↦ some_lack own peer (latest after id) ids one more has
    ]
  where
    by : (b : Bool) → is_behind after id ≡ b → Contains (entry_behind own after id (timestamps_of peer id)) one → ⊥
    by true e here = entry_lacks own peer id one (rw e at here) has
    by false e here = let none = rw e at here in absurd (omega (arith, none.1))

all_lack : (own peer : Rows) (query : RangeQuery) (ids places : List ℕ) (one : Lacking) → asks_for_timestamps query ≡ true
    → Contains (lacking_of_all own (map (reply peer query ids) places)) one → HasAsNew own peer one.scid → ⊥
all_lack own peer query ids [] one asks at has = absurd (omega (arith, at.1))
all_lack own peer query ids (place ∷ places) one asks at has =
    let piece = ids_at ids place in
    let times : times_of (reply peer query ids place) ≡ map (timestamps_of peer) piece = rw asks refl in
    elim (Contains-append_cases (lacking_of own (reply peer query ids place)) (lacking_of_all own (map (reply peer query ids) places)) one at) [
      | inl here ↦
          some_lack own peer None piece one (subst (λ times. Contains (lacking_in own None piece times) one) times here) has
      | inr more ↦ all_lack own peer query ids places one asks more has
    ]

pub needed : (chain : ChainHash) (own peer : Rows) (query : RangeQuery) (one : Lacking) → AsksForTimes chain query
    → Contains (lacking_of_all own (replies_of chain peer query)) one → HasAsNew own peer one.scid → ⊥
needed chain own peer query one asks at has =
    let ids = ids_asked_for chain peer query in
    all_lack own peer query ids (range_with_len 0 (reply_count ids)) one asks.times at has

map_twice : {X Y Z : Type 0} (g : Y → Z) (f : X → Y) (xs : List X) → map (λ x. g (f x)) xs ≡ map g (map f xs)
map_twice g f [] = refl
map_twice g f (x ∷ xs) = ap (λ ys. g (f x) ∷ ys) (map_twice g f xs)

pub sent : (chain : ChainHash) (peer : Rows) (query : RangeQuery)
    → range_reply chain peer query ≡ map (λ (it : ReplyFields). spelling (messages.RangeReply it)) (replies_of chain peer query)
sent chain peer query =
    let ids = ids_asked_for chain peer query in
    map_twice (λ (it : ReplyFields). spelling (messages.RangeReply it)) (reply peer query ids) (range_with_len 0 (reply_count ids))
