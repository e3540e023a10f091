-- Replies that cover a range of blocks.
use Rattle.std.specs.Prelude.{◌≡◌, ℕ, ◌+◌, ◌<◌, ◌≤◌, List, length, slice_index}
use Rattle.std.specs.List.{flat_map, range_with_len}
use Rattle.lgm_gossip.specs.declared.range_query.RangeQuery.{RangeQuery}
use Rattle.lgm_store.specs.Reading.{block_of}
use Rattle.lgm_query.specs.RangeReply.{range_end, reply_count, ids_at, reply_start, reply_end}

pub record CoverRange (query : RangeQuery) (ids : List ℕ) : Type 0 where
  -- the first starts where the range does
  pub first : reply_start query ids 0 ≡ query.first_blocknum
  -- no block is skipped: each later reply starts where the previous one ends, or one block earlier
  pub joined : (i : ℕ) → i + 1 < reply_count ids → (reply_start query ids (i + 1) ≤ reply_end query ids i)
      × (reply_end query ids i ≤ reply_start query ids (i + 1) + 1)
  -- the last ends where the range does
  pub last : (i : ℕ) → i + 1 ≡ reply_count ids → reply_end query ids i ≡ range_end query
  -- each covers the blocks of its ids
  pub blocks : (i k : ℕ) → i < reply_count ids → k < length (ids_at ids i)
      → (reply_start query ids i ≤ block_of (slice_index (ids_at ids i) k))
      × (block_of (slice_index (ids_at ids i) k) < reply_end query ids i)
  -- none ends before it starts
  pub forward : (i : ℕ) → i < reply_count ids → reply_start query ids i ≤ reply_end query ids i
  -- together they have all ids, in order
  pub whole : flat_map (ids_at ids) (range_with_len 0 (reply_count ids)) ≡ ids
