-- The messages that ask a peer.
use Rattle.std.specs.Prelude.{ℕ, List, map, Some}
use Rattle.lgm_wire.specs.declared.chain_hash.ChainHash.{ChainHash}
use Rattle.lgm_gossip.specs.declared.message.Message.{Message}
use Rattle.lgm_gossip.specs.declared.message.Message.TheVariants as messages
use Rattle.lgm_sync.specs.declared.lacking.Lacking.{Lacking}

-- the ids of the channels of some blocks, with the timestamps of their updates: bit 0 of the options
abbrev pub range_asked : ChainHash → ℕ → ℕ → Message
range_asked chain first_block blocks =
    messages.RangeQuery (record { chain_hash = chain; first_blocknum = first_block; number_of_blocks = blocks; options = Some 1 })

-- what is lacking of each of these channels
abbrev pub ids_asked : ChainHash → List Lacking → Message
ids_asked chain lacking =
    messages.IdsQuery (record {
      chain_hash = chain;
      ids = map (λ it. it.scid) lacking;
      flags = Some (map (λ it. it.flags) lacking);
    })

-- gossip with timestamps from the first one on, for so many seconds
abbrev pub filter_asked : ChainHash → ℕ → ℕ → Message
filter_asked chain first range =
    messages.FilterMsg (record { chain_hash = chain; first_timestamp = first; timestamp_range = range })
