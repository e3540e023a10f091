-- node_announcement: its fields.
use Rattle.std.specs.Int.{w32}
use Rattle.lgm_gossip.specs.declared.node_announce.NodeAnnounce.{NodeAnnounce}
use Rattle.lgm_gossip.specs.Fields.{Field, ◌⌢◌, fixed, number, counted, rest}

abbrev pub fields : NodeAnnounce → Field
fields m =
    fixed 64 m.signature
    ⌢ counted m.features
    ⌢ number w32 m.timestamp
    ⌢ fixed 33 m.node_id.0
    ⌢ fixed 3 m.rgb_color
    ⌢ fixed 32 m.alias
    ⌢ counted m.addresses
    ⌢ rest m.rest
