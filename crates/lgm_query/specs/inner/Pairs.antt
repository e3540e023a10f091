-- The news of the rows of two maps for channels and nodes.
use Rattle.std.specs.Prelude.{◌≡◌, ℕ, List, [], ◌++◌, Option, Some, None}
use Rattle.std.specs.List.{flat_map}
use Rattle.std.specs.Option.{option_copied, option_map_or}
use Rattle.lgm_query.specs.declared.filter.Filter.{Filter}
use Rattle.lgm_query.specs.declared.pairs.ChannelPair.{ChannelPair}
use Rattle.lgm_query.specs.declared.pairs.NodePair.{NodePair}
use Rattle.lgm_query.specs.Backlog.{passing_channel, passing_node}
use Rattle.lgm_query.specs.KeyNews.{not_among}

-- the news for this filter are asked for: for each, or for only one
abbrev pub IsAskedFor : Option Filter → Filter → Type 0
IsAskedFor None f = Unit {0}
IsAskedFor (Some only) f = f ≡ only

-- what passes of the later rows and didn't of the earlier ones
abbrev pub news_of_channel_pair : Filter → ChannelPair → List (List ℕ)
news_of_channel_pair f pair =
    not_among (option_map_or (passing_channel f) (option_copied pair.before) [])
    (passing_channel f pair.after.now)

abbrev pub news_of_node_pair : Filter → NodePair → List (List ℕ)
news_of_node_pair f pair =
    not_among (option_map_or (passing_node f) (option_copied pair.before) [])
    (passing_node f pair.after.now)

abbrev pub news_of_pairs : Filter → List ChannelPair → List NodePair → List (List ℕ)
news_of_pairs f channels nodes =
    flat_map (news_of_channel_pair f) channels ++ flat_map (news_of_node_pair f) nodes
