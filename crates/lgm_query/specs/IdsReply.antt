-- The reply to a query by ids: the messages of each channel, and then the end.
use Rattle.std.specs.Prelude.{ℕ, Bool, nat_eq, ◌==◌, List, [], ◌∷◌, ◌++◌, map}
use Rattle.std.specs.Prelude.{Option, Some, unwrap_or, if◌then◌else◌}
use Rattle.std.specs.Cmp.Lexicographic.{pointwise}
use Rattle.std.specs.Int.{bit_at}
use Rattle.std.specs.List.{flat_map, zip}
use Rattle.std.specs.Option.{option_map, option_map_or, option_to_list}
use Rattle.lgm_wire.specs.declared.chain_hash.ChainHash.{ChainHash}
use Rattle.lgm_gossip.specs.declared.message.Message.TheVariants as messages
use Rattle.lgm_gossip.specs.IdsQuery.{Query}
use Rattle.lgm_gossip.specs.Spelling.{spelling}
use Rattle.lgm_check.specs.declared.row.NodeRow.{NodeRow}
use Rattle.lgm_store.specs.declared.channel_info.ChannelInfo.{ChannelInfo}
use Rattle.lgm_store.specs.ChannelInfo.{stored_at}
use Rattle.lgm_store.specs.Rows.{Rows, channel_of, node_of}
use Rattle.lgm_query.specs.Piece.{Piece, channel, update, node, bytes_of, with_nodes_once}

-- a piece, if it is wanted and exists
abbrev pub when : Bool → Option Piece → List Piece
when wanted piece = if wanted then option_to_list piece else []

-- a piece, if it exists and the bit of the flags is set
abbrev pub if_set : ℕ → ℕ → Option Piece → List Piece
if_set flags bit piece = when (bit_at flags bit == 1) piece

-- what the flags select of a channel, in the order of the bits; higher bits select nothing
abbrev pub chosen_of : List NodeRow → ℕ → ChannelInfo → List Piece
chosen_of nodes flags stored =
    if_set flags 0 (Some (channel stored.channel))
    ++ if_set flags 1 (option_map update stored.first)
    ++ if_set flags 2 (option_map update stored.second)
    ++ if_set flags 3 (option_map node (node_of nodes stored.channel.message.node_id_1))
    ++ if_set flags 4 (option_map node (node_of nodes stored.channel.message.node_id_2))

-- what the flags select of an id: nothing if the channel isn't in the map
abbrev pub chosen : Rows → ℕ × ℕ → List Piece
chosen rows place =
    option_map_or (λ row. chosen_of rows.nodes place.1 (stored_at rows row))
    (channel_of rows.channels place.0) []

-- the flags for each id: all five if the query has none
abbrev pub flags_of : Query → List ℕ
flags_of query = unwrap_or query.flags (map (λ id. 31) query.ids)

-- what a query requests, id by id
abbrev pub asked_for : Rows → Query → List Piece
asked_for rows query = flat_map (chosen rows) (zip query.ids (flags_of query))

-- the messages of these pieces
abbrev pub messages_asked_for : Rows → Query → List (List ℕ)
messages_asked_for rows query = map bytes_of (with_nodes_once (asked_for rows query))

-- the last message, reply_short_channel_ids_end
abbrev pub end_bytes : Query → ℕ → List ℕ
end_bytes query full_information =
    spelling (messages.IdsEnd (record { chain_hash = query.chain_hash; full_information = full_information }))

-- all messages of the reply; for another chain the end alone
abbrev pub ids_reply : ChainHash → Rows → Query → List (List ℕ)
ids_reply chain rows query =
    if pointwise nat_eq query.chain_hash.0 chain.0
    then messages_asked_for rows query ++ end_bytes query 1 ∷ []
    else end_bytes query 0 ∷ []
