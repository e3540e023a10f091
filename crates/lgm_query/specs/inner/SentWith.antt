-- What was sent earlier: with which updates of an earlier channel a message was, and the message of a node.
use Rattle.std.specs.Prelude.{ℕ, Bool, false, ◌&&◌, ◌||◌, List, [], ◌∷◌, Option, Some, None, if◌then◌else◌}
use Rattle.std.specs.Option.{option_map, option_map_or}
use Rattle.lgm_check.specs.declared.row.ChannelRow.{ChannelRow}
use Rattle.lgm_check.specs.declared.row.UpdateRow.{UpdateRow}
use Rattle.lgm_check.specs.declared.row.NodeRow.{NodeRow}
use Rattle.lgm_store.specs.declared.channel_info.ChannelInfo.{ChannelInfo}
use Rattle.lgm_query.specs.declared.filter.Filter.{Filter}
use Rattle.lgm_query.specs.declared.sent_with.SentWith.{SentWith}
use Rattle.lgm_query.specs.Backlog.{passes, is_among}

-- a message is the update, or the announcement of its channel
abbrev pub is_sent_with : ChannelRow → Option UpdateRow → List ℕ → Bool
is_sent_with channel None message = false
is_sent_with channel (Some update) message = is_among (channel.raw ∷ update.raw ∷ []) message

-- the updates of a channel with which a message was sent, if there are both
abbrev pub sent_with : Option ChannelInfo → Option (List ℕ) → SentWith
sent_with (Some stored) (Some message) = record {
  first = is_sent_with stored.channel stored.first message;
  second = is_sent_with stored.channel stored.second message;
}
sent_with before message = record { first = false; second = false }

-- the message of an update, if there is one
abbrev pub update_message : Option UpdateRow → Option (List ℕ)
update_message update = option_map (λ row. row.raw) update

-- whether there is an update and it passes
abbrev pub passes_update : Filter → Option UpdateRow → Bool
passes_update f None = false
passes_update f (Some update) = passes f update.message.timestamp

-- whether one of these updates of a channel passes
abbrev pub passed_with : Filter → ChannelInfo → SentWith → Bool
passed_with f stored sent =
    (sent.first && passes_update f stored.first) || (sent.second && passes_update f stored.second)

-- a message, unless it passed before with one of these updates
abbrev pub unless_passed : Filter → Option ChannelInfo → SentWith → Option (List ℕ) → Option (List ℕ)
unless_passed f (Some stored) sent (Some message) = if passed_with f stored sent then None else Some message
unless_passed f before sent message = message

-- whether there is an earlier row of a node with this message
abbrev pub is_node_message : Option NodeRow → List ℕ → Bool
is_node_message before message = option_map_or (λ row. is_among (row.raw ∷ []) message) before false
