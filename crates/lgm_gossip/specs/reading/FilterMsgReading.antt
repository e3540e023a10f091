-- gossip_timestamp_filter: reading its fields from left to right.
use Rattle.std.specs.Prelude.{ℕ, List, Result}
use Rattle.std.specs.Int.{w32}
use Rattle.lgm_gossip.specs.declared.fault.DecodeFault.{DecodeFault}
use Rattle.lgm_gossip.specs.declared.filter_msg.FilterMsg.{FilterMsg}
use Rattle.lgm_gossip.specs.reading.FieldReading.{fixed_at, number_at, made}
use Rattle.lgm_gossip.specs.reading.InOrder.{◌>>=◌}

unfoldable pub filter_msg_at : List ℕ → Result FilterMsg DecodeFault
filter_msg_at = do
  chain_hash ← fixed_at 32
  first_timestamp ← number_at w32
  timestamp_range ← number_at w32
  made (record {
    chain_hash = record { 0 = chain_hash };
    first_timestamp = first_timestamp;
    timestamp_range = timestamp_range;
  })
