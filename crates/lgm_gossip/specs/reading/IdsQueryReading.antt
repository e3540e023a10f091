-- query_short_channel_ids: reading its fields from left to right.
use Rattle.std.specs.Prelude.{ℕ, List, length, Result}
use Rattle.lgm_gossip.specs.declared.fault.DecodeFault.{DecodeFault}
use Rattle.lgm_gossip.specs.reading.FieldReading.{fixed_at, made}
use Rattle.lgm_gossip.specs.reading.InOrder.{◌>>=◌}
use Rattle.lgm_gossip.specs.reading.EncodedIdsReading.{encoded_ids_at}
use Rattle.lgm_gossip.specs.reading.OptionalReading.{optional_at}
use Rattle.lgm_gossip.specs.reading.QueryFlagsReading.{query_flags_at}
use Rattle.lgm_gossip.specs.IdsQuery.{Query}

unfoldable pub ids_query_at : List ℕ → Result Query DecodeFault
ids_query_at = do
  chain_hash ← fixed_at 32
  ids ← encoded_ids_at
  flags ← optional_at (query_flags_at (length ids))
  made (record { chain_hash = record { 0 = chain_hash }; ids = ids; flags = flags })
