-- Replies, built from their parts.
use Rattle.std.proofs.Common.{◌≡◌, ℕ, ◌-◌, ◌*◌, ◌≤◌, Bool, true, false, List, [], ◌∷◌, length, map, take, drop, Option}
use Rattle.std.proofs.Common.{Some, None, Result, Ok, Err, refl, ap, ◌∙◌, arith, length-take, length-drop}
use Rattle.std.specs.Prelude.{IfOk, nat_eq, if◌then◌else◌}
use Rattle.std.specs.Cmp.Lexicographic.{pointwise}
use Rattle.std.specs.Option.{ForSome}
use Rattle.std.proofs.lemmas.List.{take-map, drop-map}
use Rattle.std.proofs.lemmas.List.Elements.{filter_passes, All-nil}
use Rattle.lgm_wire.specs.declared.chain_hash.ChainHash.{ChainHash}
use Rattle.lgm_gossip.specs.declared.range_query.RangeQuery.{RangeQuery}
use Rattle.lgm_gossip.specs.declared.timestamps.Timestamps.{Timestamps}
use Rattle.lgm_gossip.specs.RangeReply.{ReplyFields}
use Rattle.lgm_check.specs.declared.row.ChannelRow.{ChannelRow}
use Rattle.lgm_store.specs.ChannelInfo.{stored_at, timestamps_in}
use Rattle.lgm_store.specs.Rows.{Rows}
use Rattle.lgm_store.specs.Reading.{is_between, ids_between_of, channels_between_of}
use Rattle.lgm_query.specs.RangeReply.{range_end, ids_asked_for, AreInRange, is_last, piece_at, ids_at, reply_start, reply_end, timestamps_of}
use Rattle.lgm_query.specs.RangeReply.{all_timestamps_of, timestamps_beside, asks_for_timestamps, timestamps_asked_for, reply}

-- the requested ids are in the range
pub All-ids_asked_for : (chain : ChainHash) (rows : Rows) (query : RangeQuery)
    → AreInRange query (ids_asked_for chain rows query)
All-ids_asked_for chain rows query = by (pointwise nat_eq query.chain_hash.0 chain.0) refl
  where
    by : (b : Bool) → pointwise nat_eq query.chain_hash.0 chain.0 ≡ b → AreInRange query (ids_asked_for chain rows query)
    by true is = rw is (filter_passes (λ id. is_between id query.first_blocknum (range_end query)) _)
    by false is = rw is (All-nil (λ id. is_between id query.first_blocknum (range_end query) ≡ true))

-- a reply has at most 4,000 ids
pub length-ids_at : (ids : List ℕ) (i : ℕ) → length (ids_at ids i) ≤ 4000
length-ids_at ids i = omega (arith, length-take 4000 (drop (4000 * i) ids))

-- there is a pair of timestamps for each id
pub ForSome-piece : (query : RangeQuery) (times : List Timestamps) (ids : List ℕ) (i : ℕ)
    (pairs : Option (List Timestamps)) → (asks_for_timestamps query ≡ true → length times ≡ length ids)
    → pairs ≡ (if asks_for_timestamps query then Some (piece_at times i) else None) → ForSome pairs (λ own. length own ≡ length (ids_at ids i))
ForSome-piece query times ids i pairs beside is = rw is (by (asks_for_timestamps query) refl)
  where
    by : (b : Bool) → asks_for_timestamps query ≡ b
        → ForSome (if b then Some (piece_at times i) else None) (λ own. length own ≡ length (ids_at ids i))
    by true asks = λ own e.
        let same : piece_at times i ≡ own = cc in
        let many : length times ≡ length ids = beside asks in
        rw (← same) (omega (
          arith,
          length-take 4000 (drop (4000 * i) times),
          length-take 4000 (drop (4000 * i) ids),
          length-drop (4000 * i) times,
          length-drop (4000 * i) ids,
          many,
        ))
    by false asks = λ own e. absurd cc

-- the timestamps of the ids in a range, channel by channel
pub timestamps-walked : (rows : Rows) (from to : ℕ) (channels : List ChannelRow)
    → map timestamps_in (map (stored_at rows) (channels_between_of channels from to)) ≡ all_timestamps_of rows (ids_between_of channels from to)
timestamps-walked rows from to [] = refl
timestamps-walked rows from to (row ∷ channels) = by (is_between row.message.short_channel_id from to) refl (timestamps-walked rows from to channels)
  where
    by : (b : Bool) → is_between row.message.short_channel_id from to ≡ b
        → map timestamps_in (map (stored_at rows) (channels_between_of channels from to)) ≡ all_timestamps_of rows (ids_between_of channels from to)
        → map timestamps_in (map (stored_at rows) (channels_between_of (row ∷ channels) from to))
        ≡ all_timestamps_of rows (ids_between_of (row ∷ channels) from to)
    by true is rest = rw (is, rest) refl
    by false is rest = rw is rest

-- the part of a reply, of what all ids have, is that of its ids
pub timestamps-piece : (rows : Rows) (query : RangeQuery) (ids : List ℕ) (i : ℕ)
    → (if asks_for_timestamps query then Some (piece_at (timestamps_beside rows query ids) i) else None)
    ≡ timestamps_asked_for rows query (ids_at ids i)
timestamps-piece rows query ids i = by (asks_for_timestamps query) refl
  where
    by : (b : Bool) → asks_for_timestamps query ≡ b
        → (if asks_for_timestamps query then Some (piece_at (timestamps_beside rows query ids) i) else None)
        ≡ timestamps_asked_for rows query (ids_at ids i)
    by true is =
        rw is (ap Some (ap (take 4000) (drop-map (timestamps_of rows) (4000 * i) ids)
        ∙ take-map (timestamps_of rows) 4000 (drop (4000 * i) ids)))
    by false is = rw is refl

-- a reply whose parts are right
pub reply-parts : (rows : Rows) (query : RangeQuery) (ids : List ℕ) (i first number complete : ℕ) (own : List ℕ) (pairs : Option (List Timestamps))
    → first ≡ reply_start query ids i → number ≡ reply_end query ids i - reply_start query ids i → complete ≡ (if is_last ids i then 1 else 0)
    → own ≡ ids_at ids i → pairs ≡ timestamps_asked_for rows query (ids_at ids i)
    → (let m : ReplyFields = record {
      chain_hash = query.chain_hash;
      first_blocknum = first;
      number_of_blocks = number;
      sync_complete = complete;
      ids = own;
      timestamps = pairs;
    } in m) ≡ reply rows query ids i
reply-parts rows query ids i first number complete own pairs first_is number_is complete_is own_is pairs_is =
    rw (first_is, number_is, complete_is, own_is, pairs_is) refl

-- what is returned, by another name
pub IfOk-same : {X E : Type 0} (r : Result X E) (x y : X) → IfOk r (λ z. z ≡ x) → x ≡ y → IfOk r (λ z. z ≡ y)
IfOk-same (Ok z) x y is same = is ∙ same
IfOk-same (Err e) x y is same = tt
