-- reply_short_channel_ids_end: its fields.
use Rattle.std.specs.Int.{w8}
use Rattle.lgm_gossip.specs.declared.ids_end.IdsEnd.{IdsEnd}
use Rattle.lgm_gossip.specs.Fields.{Field, ◌⌢◌, fixed, number, dropped}

abbrev pub fields : IdsEnd → Field
fields m =
    fixed 32 m.chain_hash.0
    ⌢ number w8 m.full_information
    ⌢ dropped
