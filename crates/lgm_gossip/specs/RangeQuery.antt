-- query_channel_range: its fields.
use Rattle.std.specs.Int.{w32}
use Rattle.lgm_gossip.specs.declared.range_query.RangeQuery.{RangeQuery}
use Rattle.lgm_gossip.specs.Streams.{bigsize_bytes, IsBigSize}
use Rattle.lgm_gossip.specs.Fields.{Field, ◌⌢◌, fixed, number}
use Rattle.lgm_gossip.specs.Optional.{optional}

abbrev pub fields : RangeQuery → Field
fields m =
    fixed 32 m.chain_hash.0
    ⌢ number w32 m.first_blocknum
    ⌢ number w32 m.number_of_blocks
    ⌢ optional IsBigSize bigsize_bytes m.options
