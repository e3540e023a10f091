-- channel_update: its fields.
use Rattle.std.specs.Int.{w8, w16, w32, w64}
use Rattle.lgm_gossip.specs.declared.channel_update.ChannelUpdate.{ChannelUpdate}
use Rattle.lgm_gossip.specs.Fields.{Field, ◌⌢◌, fixed, number, rest}

abbrev pub fields : ChannelUpdate → Field
fields m =
    fixed 64 m.signature
    ⌢ fixed 32 m.chain_hash.0
    ⌢ number w64 m.short_channel_id
    ⌢ number w32 m.timestamp
    ⌢ number w8 m.message_flags
    ⌢ number w8 m.channel_flags
    ⌢ number w16 m.cltv_expiry_delta
    ⌢ number w64 m.htlc_minimum_msat
    ⌢ number w32 m.fee_base_msat
    ⌢ number w32 m.fee_proportional_millionths
    ⌢ number w64 m.htlc_maximum_msat
    ⌢ rest m.rest
