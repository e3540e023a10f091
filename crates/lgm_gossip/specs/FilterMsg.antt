-- gossip_timestamp_filter: its fields.
use Rattle.std.specs.Int.{w32}
use Rattle.lgm_gossip.specs.declared.filter_msg.FilterMsg.{FilterMsg}
use Rattle.lgm_gossip.specs.Fields.{Field, ◌⌢◌, fixed, number, dropped}

abbrev pub fields : FilterMsg → Field
fields m =
    fixed 32 m.chain_hash.0
    ⌢ number w32 m.first_timestamp
    ⌢ number w32 m.timestamp_range
    ⌢ dropped
