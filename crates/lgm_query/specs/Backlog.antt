-- What filters pass: the messages of a map, and those that are new in a later map.
use Rattle.std.specs.Prelude.{ℕ, ◌+◌, Bool, ◌&&◌, not, nat_eq, nat_le, nat_lt, List, []}
use Rattle.std.specs.Prelude.{◌∷◌, ◌++◌, filter, map, Option, Some, None, if◌then◌else◌}
use Rattle.std.specs.Cmp.Lexicographic.{pointwise}
use Rattle.std.specs.List.{flat_map, list_any}
use Rattle.std.specs.Option.{option_to_list}
use Rattle.lgm_check.specs.declared.row.ChannelRow.{ChannelRow}
use Rattle.lgm_check.specs.declared.row.UpdateRow.{UpdateRow}
use Rattle.lgm_check.specs.declared.row.NodeRow.{NodeRow}
use Rattle.lgm_store.specs.declared.channel_info.ChannelInfo.{ChannelInfo}
use Rattle.lgm_store.specs.ChannelInfo.{stored_at}
use Rattle.lgm_store.specs.Rows.{Rows}
use Rattle.lgm_query.specs.declared.filter.Filter.{Filter}

-- whether a timestamp is in the range of a filter
abbrev pub passes : Filter → ℕ → Bool
passes filter timestamp = nat_le filter.first timestamp && nat_lt timestamp (filter.first + filter.range)

-- the message of an update, if there is one and it passes
abbrev pub passing_update : Filter → Option UpdateRow → Option (List ℕ)
passing_update f None = None
passing_update f (Some row) = if passes f row.message.timestamp then Some row.raw else None

-- a channel's announcement before its updates, if any
abbrev pub behind_announcement : ChannelRow → List (List ℕ) → List (List ℕ)
behind_announcement row [] = []
behind_announcement row (update ∷ updates) = row.raw ∷ update ∷ updates

-- what passes of a channel with its updates, that by node 1 first
abbrev pub passing_channel : Filter → ChannelInfo → List (List ℕ)
passing_channel f stored =
    behind_announcement stored.channel
    (option_to_list (passing_update f stored.first) ++ option_to_list (passing_update f stored.second))

-- what passes of a node announcement
abbrev pub passing_node : Filter → NodeRow → List (List ℕ)
passing_node f row = if passes f row.message.timestamp then row.raw ∷ [] else []

-- what passes of channels, and then of nodes
abbrev pub passing_rows : Filter → List ChannelInfo → List NodeRow → List (List ℕ)
passing_rows f channels nodes = flat_map (passing_channel f) channels ++ flat_map (passing_node f) nodes

-- what passes of a map: channels by id, and then nodes
abbrev pub backlog : Rows → Filter → List (List ℕ)
backlog rows f = passing_rows f (map (stored_at rows) rows.channels) rows.nodes

-- a message is one of these
abbrev pub is_among : List (List ℕ) → List ℕ → Bool
is_among messages message = list_any (pointwise nat_eq message) messages

-- what passes of a later map and didn't of an earlier one
abbrev pub news : Rows → Rows → Filter → List (List ℕ)
news before after f = filter (λ message. not (is_among (backlog before f) message)) (backlog after f)
