-- The replies to a query of a block range: the ids of its channels, in pieces of at most 4,000.
use Rattle.std.specs.Prelude.{◌≡◌, ℕ, zero, suc, ◌+◌, ◌-◌, ◌*◌, max, nat_eq, ◌==◌, Bool}
use Rattle.std.specs.Prelude.{true, false, List, [], length, map, take, drop, Option, Some}
use Rattle.std.specs.Prelude.{None, slice_index, unwrap_or, All, if◌then◌else◌}
use Rattle.std.specs.Cmp.Lexicographic.{pointwise}
use Rattle.std.specs.Int.{bit_at, div_ceil}
use Rattle.std.specs.List.{range_with_len}
use Rattle.lgm_wire.specs.declared.chain_hash.ChainHash.{ChainHash}
use Rattle.lgm_gossip.specs.declared.message.Message.TheVariants as messages
use Rattle.lgm_gossip.specs.declared.range_query.RangeQuery.{RangeQuery}
use Rattle.lgm_gossip.specs.declared.timestamps.Timestamps.{Timestamps}
use Rattle.lgm_gossip.specs.RangeReply.{ReplyFields}
use Rattle.lgm_gossip.specs.Spelling.{spelling}
use Rattle.lgm_store.specs.ChannelWithUpdates.{timestamp_of}
use Rattle.lgm_store.specs.Rows.{Rows, update_of}
use Rattle.lgm_store.specs.Reading.{block_of, is_between, ids_between_of}

-- the end of a query's range, exclusive; a range of no blocks counts as one block
abbrev pub range_end : RangeQuery → ℕ
range_end query = query.first_blocknum + max query.number_of_blocks 1

-- the ids in the range, ascending; none for another chain
abbrev pub ids_asked_for : ChainHash → Rows → RangeQuery → List ℕ
ids_asked_for chain rows query =
    if pointwise nat_eq query.chain_hash.0 chain.0
    then ids_between_of rows.channels query.first_blocknum (range_end query)
    else []

-- each id is in the range
abbrev pub AreInRange : RangeQuery → List ℕ → Type 0
AreInRange query ids = All (λ id. is_between id query.first_blocknum (range_end query) ≡ true) ids

-- the number of replies: the number of ids by 4,000, rounded up, and at least one
abbrev pub reply_count : List ℕ → ℕ
reply_count ids = max 1 (div_ceil (length ids) 4000)

abbrev pub is_last : List ℕ → ℕ → Bool
is_last ids i = i + 1 == reply_count ids

-- the part of reply i
abbrev pub piece_at : {X : Type 0} → List X → ℕ → List X
piece_at items i = take 4000 (drop (4000 * i) items)

-- the ids of reply i
abbrev pub ids_at : List ℕ → ℕ → List ℕ
ids_at ids i = piece_at ids i

-- the block of the first id of reply i, and that of its last one, if it is full
abbrev pub first_block : List ℕ → ℕ → ℕ
first_block ids i = block_of (slice_index ids (4000 * i))

abbrev pub last_block : List ℕ → ℕ → ℕ
last_block ids i = block_of (slice_index ids (4000 * i + 3999))

-- the end of reply i, exclusive: just after the block of its last id, or where the range ends
abbrev pub reply_end : RangeQuery → List ℕ → ℕ → ℕ
reply_end query ids i = if is_last ids i then range_end query else last_block ids i + 1

-- the first block of reply i: where the previous one ends, or one earlier if its first id is in that block
abbrev pub reply_start : RangeQuery → List ℕ → ℕ → ℕ
reply_start query ids zero = query.first_blocknum
reply_start query ids (suc i) =
    let end = reply_end query ids i in
    if first_block ids (suc i) + 1 == end then end - 1 else end

-- the timestamps of a channel's updates
abbrev pub timestamps_of : Rows → ℕ → Timestamps
timestamps_of rows id =
    record {
      node_1 = timestamp_of (update_of rows.updates id false);
      node_2 = timestamp_of (update_of rows.updates id true);
    }

abbrev pub all_timestamps_of : Rows → List ℕ → List Timestamps
all_timestamps_of rows ids = map (timestamps_of rows) ids

-- whether the query requests timestamps: bit 0 of its options
abbrev pub asks_for_timestamps : RangeQuery → Bool
asks_for_timestamps query = bit_at (unwrap_or query.options 0) 0 == 1

-- those of all ids, if the query requests them
abbrev pub timestamps_beside : Rows → RangeQuery → List ℕ → List Timestamps
timestamps_beside rows query ids = if asks_for_timestamps query then all_timestamps_of rows ids else []

-- the timestamps of these channels, if the query requests them
abbrev pub timestamps_asked_for : Rows → RangeQuery → List ℕ → Option (List Timestamps)
timestamps_asked_for rows query ids =
    if asks_for_timestamps query then Some (all_timestamps_of rows ids) else None

-- reply i, reply_channel_range
abbrev pub reply : Rows → RangeQuery → List ℕ → ℕ → ReplyFields
reply rows query ids i = record {
  chain_hash = query.chain_hash;
  first_blocknum = reply_start query ids i;
  number_of_blocks = reply_end query ids i - reply_start query ids i;
  sync_complete = if is_last ids i then 1 else 0;
  ids = ids_at ids i;
  timestamps = timestamps_asked_for rows query (ids_at ids i);
}

-- its bytes
abbrev pub reply_bytes : Rows → RangeQuery → List ℕ → ℕ → List ℕ
reply_bytes rows query ids i = spelling (messages.RangeReply (reply rows query ids i))

-- all replies
abbrev pub range_reply : ChainHash → Rows → RangeQuery → List (List ℕ)
range_reply chain rows query =
    let ids = ids_asked_for chain rows query in
    map (reply_bytes rows query ids) (range_with_len 0 (reply_count ids))
