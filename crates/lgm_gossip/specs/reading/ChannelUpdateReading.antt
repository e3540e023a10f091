-- channel_update: its fields at their offsets, which are fixed.
use Rattle.std.specs.Prelude.{ℕ, List, drop, Result}
use Rattle.std.specs.Int.{w8, w16, w32, w64}
use Rattle.lgm_gossip.specs.declared.fault.DecodeFault.{DecodeFault}
use Rattle.lgm_gossip.specs.declared.channel_update.ChannelUpdate.{ChannelUpdate}
use Rattle.lgm_gossip.specs.Places.{part, number_in}
use Rattle.lgm_gossip.specs.reading.FieldReading.{laid_out}

abbrev pub update_in : List ℕ → ChannelUpdate
update_in raw = record {
  signature = part 2 64 raw;
  chain_hash = record { 0 = part 66 32 raw };
  short_channel_id = number_in w64 98 raw;
  timestamp = number_in w32 106 raw;
  message_flags = number_in w8 110 raw;
  channel_flags = number_in w8 111 raw;
  cltv_expiry_delta = number_in w16 112 raw;
  htlc_minimum_msat = number_in w64 114 raw;
  fee_base_msat = number_in w32 122 raw;
  fee_proportional_millionths = number_in w32 126 raw;
  htlc_maximum_msat = number_in w64 130 raw;
  rest = drop 138 raw;
}

unfoldable pub channel_update_at : List ℕ → Result ChannelUpdate DecodeFault
channel_update_at raw = laid_out 138 (update_in raw) raw
