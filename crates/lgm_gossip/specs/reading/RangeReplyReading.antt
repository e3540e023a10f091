-- reply_channel_range: reading its fields from left to right.
use Rattle.std.specs.Prelude.{ℕ, List, length, Result}
use Rattle.std.specs.Int.{w8, w32}
use Rattle.lgm_gossip.specs.declared.fault.DecodeFault.{DecodeFault}
use Rattle.lgm_gossip.specs.reading.FieldReading.{fixed_at, number_at, made}
use Rattle.lgm_gossip.specs.reading.InOrder.{◌>>=◌}
use Rattle.lgm_gossip.specs.reading.EncodedIdsReading.{encoded_ids_at}
use Rattle.lgm_gossip.specs.reading.OptionalReading.{optional_at}
use Rattle.lgm_gossip.specs.reading.TimestampListReading.{timestamps_at}
use Rattle.lgm_gossip.specs.RangeReply.{ReplyFields}

unfoldable pub range_reply_at : List ℕ → Result ReplyFields DecodeFault
range_reply_at = do
  chain_hash ← fixed_at 32
  first_blocknum ← number_at w32
  number_of_blocks ← number_at w32
  sync_complete ← number_at w8
  ids ← encoded_ids_at
  timestamps ← optional_at (timestamps_at (length ids))
  made (record {
    chain_hash = record { 0 = chain_hash };
    first_blocknum = first_blocknum;
    number_of_blocks = number_of_blocks;
    sync_complete = sync_complete;
    ids = ids;
    timestamps = timestamps;
  })
