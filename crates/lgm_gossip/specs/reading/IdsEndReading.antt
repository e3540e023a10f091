-- reply_short_channel_ids_end: reading its fields from left to right.
use Rattle.std.specs.Prelude.{ℕ, List, Result}
use Rattle.std.specs.Int.{w8}
use Rattle.lgm_gossip.specs.declared.fault.DecodeFault.{DecodeFault}
use Rattle.lgm_gossip.specs.declared.ids_end.IdsEnd.{IdsEnd}
use Rattle.lgm_gossip.specs.reading.FieldReading.{fixed_at, number_at, made}
use Rattle.lgm_gossip.specs.reading.InOrder.{◌>>=◌}

unfoldable pub ids_end_at : List ℕ → Result IdsEnd DecodeFault
ids_end_at = do
  chain_hash ← fixed_at 32
  full_information ← number_at w8
  made (record { chain_hash = record { 0 = chain_hash }; full_information = full_information })
