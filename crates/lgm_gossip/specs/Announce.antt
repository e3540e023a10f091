-- channel_announcement: its fields.
use Rattle.std.specs.Int.{w64}
use Rattle.lgm_gossip.specs.declared.announce.Announce.{Announce}
use Rattle.lgm_gossip.specs.Fields.{Field, ◌⌢◌, fixed, number, counted, rest}

abbrev pub fields : Announce → Field
fields m =
    fixed 64 m.node_signature_1
    ⌢ fixed 64 m.node_signature_2
    ⌢ fixed 64 m.bitcoin_signature_1
    ⌢ fixed 64 m.bitcoin_signature_2
    ⌢ counted m.features
    ⌢ fixed 32 m.chain_hash.0
    ⌢ number w64 m.short_channel_id
    ⌢ fixed 33 m.node_id_1.0
    ⌢ fixed 33 m.node_id_2.0
    ⌢ fixed 33 m.bitcoin_key_1.0
    ⌢ fixed 33 m.bitcoin_key_2.0
    ⌢ rest m.rest
