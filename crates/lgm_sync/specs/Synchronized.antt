-- A map beside that of a peer, which was asked for what is lacking.
use Rattle.std.specs.Prelude.{◌≡◌, ℕ, ◌≤◌, true, false, List, map, is_some, ◌<◌, Some, None}
use Rattle.std.specs.List.{Contains, flat_map, range_with_len}
use Rattle.lgm_wire.specs.declared.chain_hash.ChainHash.{ChainHash}
use Rattle.lgm_gossip.specs.declared.range_query.RangeQuery.{RangeQuery}
use Rattle.lgm_gossip.specs.IdsQuery.{Query}
use Rattle.lgm_gossip.specs.RangeReply.{ReplyFields}
use Rattle.lgm_check.specs.declared.row.ChannelRow.{ChannelRow}
use Rattle.lgm_check.specs.declared.row.UpdateRow.{UpdateRow}
use Rattle.lgm_store.specs.ChannelWithUpdates.{timestamp_of}
use Rattle.lgm_store.specs.Reading.{is_between}
use Rattle.lgm_store.specs.Rows.{Rows, channel_of, update_of}
use Rattle.lgm_query.specs.RangeReply.{range_end, ids_asked_for, reply_count, reply, timestamps_of, asks_for_timestamps}
use Rattle.lgm_sync.specs.declared.lacking.Lacking.{Lacking}
use Rattle.lgm_sync.specs.Lacking.{flags_lacking, lacking_of}

-- what a peer with this map replies to a query of a range, reply by reply
abbrev pub replies_of : ChainHash → Rows → RangeQuery → List ReplyFields
replies_of chain peer query =
    let ids = ids_asked_for chain peer query in
    map (reply peer query ids) (range_with_len 0 (reply_count ids))

-- what a map lacks of the channels in these replies
abbrev pub lacking_of_all : Rows → List ReplyFields → List Lacking
lacking_of_all own replies = flat_map (lacking_of own) replies

-- a query of this chain that asks for timestamps
pub record AsksForTimes (chain : ChainHash) (query : RangeQuery) : Type 0 where
  pub own : query.chain_hash ≡ chain
  pub times : asks_for_timestamps query ≡ true

-- a channel of a map that is in the range of a query
pub record IsAsked (rows : Rows) (query : RangeQuery) (row : ChannelRow) : Type 0 where
  pub held : Contains rows.channels row
  pub within : is_between row.message.short_channel_id query.first_blocknum (range_end query) ≡ true

-- a map has a channel that a peer has, with updates that are at least as new
pub record HasAsNew (own peer : Rows) (id : ℕ) : Type 0 where
  pub channel : is_some (channel_of own.channels id) ≡ true
  pub first : timestamp_of (update_of peer.updates id false) ≤ timestamp_of (update_of own.updates id false)
  pub second : timestamp_of (update_of peer.updates id true) ≤ timestamp_of (update_of own.updates id true)

-- a channel is among what is lacking, with the flags for all that is newer, and with the peer's timestamps
pub record IsToldLacking (own peer : Rows) (found : List Lacking) (id : ℕ) : Type 0 where
  pub entry : Lacking
  pub given : Contains found entry
  pub channel : entry.scid ≡ id
  pub flags : entry.flags ≡ flags_lacking own id (timestamps_of peer id)
  pub times : entry.times ≡ timestamps_of peer id

-- the query for these channels, which `ask_ids` encodes
abbrev pub query_for : ChainHash → List Lacking → Query
query_for chain lacking = record {
  chain_hash = chain;
  ids = map (λ it. it.scid) lacking;
  flags = Some (map (λ it. it.flags) lacking);
}

-- an answer has what a peer has of a channel and a map lacks: its announcement, if it isn't in the map, and each update whose
-- timestamp is greater than that of the map's
pub record IsAnswered (own peer : Rows) (answer : List (List ℕ)) (row : ChannelRow) : Type 0 where
  pub channel : channel_of own.channels row.message.short_channel_id ≡ None → Contains answer row.raw
  pub first : (update : UpdateRow) → update_of peer.updates row.message.short_channel_id false ≡ Some update
      → timestamp_of (update_of own.updates row.message.short_channel_id false) < update.message.timestamp
      → Contains answer update.raw
  pub second : (update : UpdateRow) → update_of peer.updates row.message.short_channel_id true ≡ Some update
      → timestamp_of (update_of own.updates row.message.short_channel_id true) < update.message.timestamp
      → Contains answer update.raw
