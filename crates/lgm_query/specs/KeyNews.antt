-- News by key: what is new of a channel and of a node.
use Rattle.std.specs.Prelude.{ℕ, not, List, [], filter}
use Rattle.std.specs.Option.{option_map_or}
use Rattle.lgm_wire.specs.declared.point.Point.{Point}
use Rattle.lgm_store.specs.ChannelInfo.{stored_at}
use Rattle.lgm_store.specs.Rows.{Rows, channel_of, node_of}
use Rattle.lgm_query.specs.declared.filter.Filter.{Filter}
use Rattle.lgm_query.specs.Backlog.{passing_channel, passing_node, is_among}

-- what passes of a channel, and of a node: nothing if it isn't in the map
abbrev pub passing_of_channel : Filter → Rows → ℕ → List (List ℕ)
passing_of_channel f rows id =
    option_map_or (λ row. passing_channel f (stored_at rows row)) (channel_of rows.channels id) []

abbrev pub passing_of_node : Filter → Rows → Point → List (List ℕ)
passing_of_node f rows node = option_map_or (passing_node f) (node_of rows.nodes node) []

-- messages that aren't among others
abbrev pub not_among : List (List ℕ) → List (List ℕ) → List (List ℕ)
not_among others messages = filter (λ message. not (is_among others message)) messages

-- what passes later and didn't before, of a channel and of a node
abbrev pub news_of_channel : Filter → Rows → Rows → ℕ → List (List ℕ)
news_of_channel f before after id =
    not_among (passing_of_channel f before id) (passing_of_channel f after id)

abbrev pub news_of_node : Filter → Rows → Rows → Point → List (List ℕ)
news_of_node f before after node =
    not_among (passing_of_node f before node) (passing_of_node f after node)
