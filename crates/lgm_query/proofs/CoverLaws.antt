-- Replies with ascending ids.
use Rattle.std.proofs.Common.{◌≡◌, ℕ, zero, suc, ◌+◌, ◌-◌, ◌*◌, ◌<◌, ◌≤◌, Bool, true, false, List, [], ◌∷◌, ◌++◌, length}
use Rattle.std.proofs.Common.{map, take, drop, refl, sym, ap, subst, ◌∙◌, arith, add-one, length-take, length-drop}
use Rattle.std.specs.Prelude.{nat_eq, nat_lt, nat_le, ◌&&◌, slice_index, ◌==◌, if◌then◌else◌}
use Rattle.std.specs.Cmp.Lexicographic.{pointwise}
use Rattle.std.specs.List.{AllByRecursion, flat_map, range_with_len}
use Rattle.std.specs.List.Sorted.{IsStrictlySortedBy}
use Rattle.std.specs.declared.cmp.Ordering.TheVariants.{Less}
use Rattle.std.specs.Ordering.{nat_cmp}
use Rattle.std.proofs.Math.Seq.{take-add}
use Rattle.std.proofs.lemmas.Bool.Decides.{nat_tests}
use Rattle.std.proofs.lemmas.List.{get_or-take, get_or-drop, take_all, drop-drop}
use Rattle.std.proofs.lemmas.List.Kept.{IsStrictlySortedBy-filter}
use Rattle.std.proofs.lemmas.Map.Keys.{non_decreasing_from_sorted}
use Rattle.lgm_wire.specs.declared.chain_hash.ChainHash.{ChainHash}
use Rattle.lgm_gossip.specs.declared.range_query.RangeQuery.{RangeQuery}
use Rattle.lgm_check.specs.declared.row.ChannelRow.{ChannelRow}
use Rattle.lgm_store.specs.Rows.{Rows, IsAscending, by_id}
use Rattle.lgm_store.specs.Reading.{block_of, is_between}
use Rattle.lgm_query.specs.Cover.{CoverRange}
use Rattle.lgm_query.specs.RangeReply.{range_end, ids_asked_for, AreInRange, reply_count, is_last}
use Rattle.lgm_query.specs.RangeReply.{ids_at, first_block, last_block, reply_start, reply_end}
use Rattle.lgm_query.proofs.RangeLaws.{All-ids_asked_for}

-- ---- ids that ascend

ids-ascend : (rows : List ChannelRow) → IsStrictlySortedBy by_id rows → IsStrictlySortedBy nat_cmp (map (λ row. row.message.short_channel_id) rows)
unfolding IsStrictlySortedBy
ids-ascend [] sorted = tt
ids-ascend (row ∷ rows) sorted = (along rows sorted.0, ids-ascend rows sorted.1)
  where
    along : (rows : List ChannelRow) → AllByRecursion (λ other. by_id row other ≡ Less) rows
        → AllByRecursion (λ id. nat_cmp row.message.short_channel_id id ≡ Less) (map (λ other. other.message.short_channel_id) rows)
    along [] all = tt
    along (other ∷ others) all = (all.0, along others all.1)

none-ascend : IsStrictlySortedBy nat_cmp []
unfolding IsStrictlySortedBy
none-ascend = tt

asked-ascend : (chain : ChainHash) (rows : Rows) (query : RangeQuery) → IsStrictlySortedBy by_id rows.channels
    → IsStrictlySortedBy nat_cmp (ids_asked_for chain rows query)
asked-ascend chain rows query sorted = by (pointwise nat_eq query.chain_hash.0 chain.0) refl
  where
    by : (b : Bool) → pointwise nat_eq query.chain_hash.0 chain.0 ≡ b → IsStrictlySortedBy nat_cmp (ids_asked_for chain rows query)
    by true is =
        rw is (IsStrictlySortedBy-filter nat_cmp (λ id. is_between id query.first_blocknum (range_end query))
        _ (ids-ascend rows.channels sorted))
    by false is = rw is none-ascend

-- blocks don't decrease
blocks : (ids : List ℕ) → IsStrictlySortedBy nat_cmp ids → (i j : ℕ) → i ≤ j → j < length ids
    → block_of (slice_index ids i) ≤ block_of (slice_index ids j)
blocks ids sorted i j le within = of (slice_index ids i) (slice_index ids j) (non_decreasing_from_sorted ids sorted i j 0 le within)
  where
    of : (a b : ℕ) → a ≤ b → block_of a ≤ block_of b
    of a b le = omega arith

-- ---- ids in a range

from_first : (query : RangeQuery) (ids : List ℕ) → AreInRange query ids
    → (j : ℕ) → j < length ids → query.first_blocknum ≤ block_of (slice_index ids j)
from_first query ids between j within = of query.first_blocknum (block_of (slice_index ids j)) (range_end query) (between j 0 within)
  where
    of : (a b c : ℕ) → (nat_le a b && nat_lt b c) ≡ true → a ≤ b
    of a b c e = grind (arith, nat_tests)

before_end : (query : RangeQuery) (ids : List ℕ) → AreInRange query ids
    → (j : ℕ) → j < length ids → block_of (slice_index ids j) < range_end query
before_end query ids between j within = of query.first_blocknum (block_of (slice_index ids j)) (range_end query) (between j 0 within)
  where
    of : (a b c : ℕ) → (nat_le a b && nat_lt b c) ≡ true → b < c
    of a b c e = grind (arith, nat_tests)

-- ---- places

last-true : (ids : List ℕ) (i : ℕ) → i + 1 ≡ reply_count ids → is_last ids i ≡ true
last-true ids i is = of (i + 1) (reply_count ids) is
  where
    of : (a b : ℕ) → a ≡ b → (a == b) ≡ true
    of a b e = grind (arith, nat_tests)

last-false : (ids : List ℕ) (i : ℕ) → i + 1 < reply_count ids → is_last ids i ≡ false
last-false ids i less = of (i + 1) (reply_count ids) less
  where
    of : (a b : ℕ) → a < b → (a == b) ≡ false
    of a b e = grind (arith, nat_tests)

-- a reply that isn't the last is full, and an id follows it
full : (ids : List ℕ) (i : ℕ) → i + 1 < reply_count ids → 4000 * i + 4000 < length ids
full ids i less = omega arith

-- the ids of a reply
at_place : (ids : List ℕ) (i k : ℕ) → k < length (ids_at ids i) → slice_index (ids_at ids i) k ≡ slice_index ids (4000 * i + k)
at_place ids i k within =
    let few : k < 4000 = omega (arith, length-take 4000 (drop (4000 * i) ids)) in
    get_or-take 4000 (drop (4000 * i) ids) k 0 few ∙ get_or-drop (4000 * i) ids k 0

within_all : (ids : List ℕ) (i k : ℕ) → k < length (ids_at ids i) → 4000 * i + k < length ids
within_all ids i k within = omega (arith, length-take 4000 (drop (4000 * i) ids), length-drop (4000 * i) ids)

below_4000 : (ids : List ℕ) (i k : ℕ) → k < length (ids_at ids i) → k < 4000
below_4000 ids i k within = omega (arith, length-take 4000 (drop (4000 * i) ids))

-- ---- where replies start and end

-- a start isn't past the block of its first id
start_low : (last first : ℕ) → last ≤ first → (if first + 1 == last + 1 then last + 1 - 1 else last + 1) ≤ first
start_low last first le = by (first + 1 == last + 1) refl
  where
    apart : (a b : ℕ) → (a + 1 == b + 1) ≡ false → a ≡ b → ⊥
    apart a b e same = grind (arith, nat_tests)

    by : (b : Bool) → (first + 1 == last + 1) ≡ b → (if first + 1 == last + 1 then last + 1 - 1 else last + 1) ≤ first
    by true is = rw is (omega arith)
    by false is = rw is (let differ : first ≡ last → ⊥ = apart first last is in omega arith)

-- it is where the reply before ends, or one block earlier
start_near : (end first : ℕ) → ((if first + 1 == end then end - 1 else end) ≤ end) × (end ≤ (if first + 1 == end then end - 1 else end) + 1)
start_near end first = by (first + 1 == end) refl
  where
    by : (b : Bool) → (first + 1 == end) ≡ b → ((if first + 1 == end then end - 1 else end) ≤ end)
        × (end ≤ (if first + 1 == end then end - 1 else end) + 1)
    by true is = rw is (omega arith, omega arith)
    by false is = rw is (omega arith, omega arith)

module _ (query : RangeQuery) (ids : List ℕ) (sorted : IsStrictlySortedBy nat_cmp ids) (between : AreInRange query ids) where
  -- a reply starts no later than the blocks of its ids
  starts : (i j : ℕ) → i < reply_count ids → 4000 * i ≤ j → j < length ids → reply_start query ids i ≤ block_of (slice_index ids j)
  starts zero j within low high = from_first query ids between j high
  starts (suc i) j within low high =
      let more : i + 1 < reply_count ids = omega arith in
      let is_full : 4000 * i + 4000 < length ids = full ids i more in
      let behind : 4000 * (suc i) < length ids = omega arith in
      let order : last_block ids i ≤ first_block ids (suc i) = blocks ids sorted (4000 * i + 3999) (4000 * (suc i)) (omega arith) behind in
      let own : first_block ids (suc i) ≤ block_of (slice_index ids j) = blocks ids sorted (4000 * (suc i)) j low high in
      rw (last-false ids i more) (omega (arith, start_low (last_block ids i) (first_block ids (suc i)) order))

  -- and ends after them
  ends : (i j : ℕ) → i < reply_count ids → j < 4000 * i + 4000 → j < length ids → block_of (slice_index ids j) < reply_end query ids i
  ends i j within low high = by (is_last ids i) refl
    where
      more : is_last ids i ≡ false → i + 1 < reply_count ids
      more is = of i (reply_count ids) within is
        where
          of : (a b : ℕ) → a < b → (a + 1 == b) ≡ false → a + 1 < b
          of a b less e = grind (arith, nat_tests)

      by : (b : Bool) → is_last ids i ≡ b → block_of (slice_index ids j) < reply_end query ids i
      by true is = rw is (before_end query ids between j high)
      by false is =
          let is_full : 4000 * i + 4000 < length ids = full ids i (more is) in
          let order : block_of (slice_index ids j) ≤ last_block ids i = blocks ids sorted j (4000 * i + 3999) (omega arith) (omega arith) in
          rw is (omega arith)

  joined : (i : ℕ) → i + 1 < reply_count ids → (reply_start query ids (i + 1) ≤ reply_end query ids i)
      × (reply_end query ids i ≤ reply_start query ids (i + 1) + 1)
  joined i more =
      subst (λ (next : ℕ). (reply_start query ids next ≤ reply_end query ids i)
      × (reply_end query ids i ≤ reply_start query ids next + 1)) (sym (add-one i))
      (start_near (reply_end query ids i) (first_block ids (suc i)))

  forward : (i : ℕ) → i < reply_count ids → reply_start query ids i ≤ reply_end query ids i
  forward i within = by (nat_lt (4000 * i) (length ids)) refl
    where
      yes : (a b : ℕ) → nat_lt a b ≡ true → a < b
      yes a b e = grind (arith, nat_tests)

      no : (a b : ℕ) → nat_lt a b ≡ false → b ≤ a
      no a b e = grind (arith, nat_tests)

      by : (b : Bool) → nat_lt (4000 * i) (length ids) ≡ b → reply_start query ids i ≤ reply_end query ids i
      by true is =
          let own : 4000 * i < length ids = yes (4000 * i) (length ids) is in
          let low : reply_start query ids i ≤ block_of (slice_index ids (4000 * i)) = starts i (4000 * i) within (omega arith) own in
          let high : block_of (slice_index ids (4000 * i)) < reply_end query ids i = ends i (4000 * i) within (omega arith) own in
          omega arith
      by false is =
          let none : length ids ≤ 4000 * i = no (4000 * i) (length ids) is in
          let only : i ≡ 0 = omega arith in
          let end : 0 + 1 ≡ reply_count ids = omega arith in
          rw (only, last-true ids 0 end) (omega arith)

  stored : (i k : ℕ) → i < reply_count ids → k < length (ids_at ids i)
      → (reply_start query ids i ≤ block_of (slice_index (ids_at ids i) k)) × (block_of (slice_index (ids_at ids i) k) < reply_end query ids i)
  stored i k within own =
      let few : k < 4000 = below_4000 ids i k own in
      rw (at_place ids i k own) (
        starts i (4000 * i + k) within (omega arith) (within_all ids i k own),
        ends i (4000 * i + k) within (omega arith) (within_all ids i k own),
      )

-- ---- all ids

pieces : (ids : List ℕ) (a n : ℕ) → flat_map (ids_at ids) (range_with_len a n) ≡ take (4000 * n) (drop (4000 * a) ids)
pieces ids a zero = refl
pieces ids a (suc n) =
    let size : 4000 * (suc n) ≡ 4000 + 4000 * n = omega arith in
    let next : 4000 * (a + 1) ≡ 4000 * a + 4000 = omega arith in
    ap (λ (rest : List ℕ). ids_at ids a ++ rest) (pieces ids (a + 1) n ∙ ap (λ (m : ℕ).
    take (4000 * n) (drop m ids)) next ∙ ap (take (4000 * n)) (sym (drop-drop 4000 (4000 * a) ids)))
    ∙ sym (take-add 4000 (4000 * n) (drop (4000 * a) ids))
    ∙ ap (λ (m : ℕ). take m (drop (4000 * a) ids)) (sym size)

whole : (ids : List ℕ) → flat_map (ids_at ids) (range_with_len 0 (reply_count ids)) ≡ ids
whole ids = pieces ids 0 (reply_count ids) ∙ take_all (4000 * reply_count ids) ids (omega arith)

-- the replies cover the range
pub CoverRange-asked : (chain : ChainHash) (rows : Rows) (query : RangeQuery) → IsAscending rows → CoverRange query (ids_asked_for chain rows query)
CoverRange-asked chain rows query ascend =
    let ids = ids_asked_for chain rows query in
    let sorted = asked-ascend chain rows query ascend.channels in
    let between = All-ids_asked_for chain rows query in
    record {
      first = refl;
      joined = joined query ids sorted between;
      last = λ i is. rw (last-true ids i is) refl;
      blocks = stored query ids sorted between;
      forward = forward query ids sorted between;
      whole = whole ids;
    }
