-- Filters of no seconds.
use Rattle.std.proofs.Common.{◌≡◌, ℕ, false, List, [], ◌∷◌, Option, Some, None, refl, rules}
use Rattle.std.specs.List.{flat_map}
use Rattle.lgm_check.specs.declared.row.UpdateRow.{UpdateRow}
use Rattle.lgm_check.specs.declared.row.NodeRow.{NodeRow}
use Rattle.lgm_store.specs.declared.channel_info.ChannelInfo.{ChannelInfo}
use Rattle.lgm_query.specs.declared.filter.Filter.{Filter}
use Rattle.lgm_query.specs.declared.pairs.ChannelPair.{ChannelPair}
use Rattle.lgm_query.specs.declared.pairs.NodePair.{NodePair}
use Rattle.lgm_query.specs.Backlog.{passes, passing_update, passing_channel, passing_node, passing_rows}
use Rattle.lgm_query.specs.inner.Pairs.{news_of_channel_pair, news_of_node_pair, news_of_pairs}

nothing_passes : (f : Filter) (t : ℕ) → f.range ≡ 0 → passes f t ≡ false
nothing_passes f t idle = rw idle (search rules)

no_update : (f : Filter) (row : Option UpdateRow) → f.range ≡ 0 → passing_update f row ≡ None
no_update f None idle = refl
no_update f (Some row) idle = rw (nothing_passes f row.message.timestamp idle) refl

no_channel : (f : Filter) (stored : ChannelInfo) → f.range ≡ 0 → passing_channel f stored ≡ []
no_channel f stored idle = rw (no_update f stored.first idle, no_update f stored.second idle) refl

no_node : (f : Filter) (row : NodeRow) → f.range ≡ 0 → passing_node f row ≡ []
no_node f row idle = rw (nothing_passes f row.message.timestamp idle) refl

no_channels : (f : Filter) (channels : List ChannelInfo) → f.range ≡ 0 → flat_map (passing_channel f) channels ≡ []
no_channels f [] idle = refl
no_channels f (stored ∷ channels) idle = rw (no_channel f stored idle, no_channels f channels idle) refl

no_nodes : (f : Filter) (nodes : List NodeRow) → f.range ≡ 0 → flat_map (passing_node f) nodes ≡ []
no_nodes f [] idle = refl
no_nodes f (row ∷ nodes) idle = rw (no_node f row idle, no_nodes f nodes idle) refl

-- nothing passes
pub no_rows : (f : Filter) (channels : List ChannelInfo) (nodes : List NodeRow) → f.range ≡ 0 → passing_rows f channels nodes ≡ []
no_rows f channels nodes idle = rw (no_channels f channels idle, no_nodes f nodes idle) refl

no_channel_news : (f : Filter) (pairs : List ChannelPair) → f.range ≡ 0 → flat_map (news_of_channel_pair f) pairs ≡ []
no_channel_news f [] idle = refl
no_channel_news f (pair ∷ pairs) idle = rw (no_channel f pair.after.now idle, no_channel_news f pairs idle) refl

no_node_news : (f : Filter) (pairs : List NodePair) → f.range ≡ 0 → flat_map (news_of_node_pair f) pairs ≡ []
no_node_news f [] idle = refl
no_node_news f (pair ∷ pairs) idle = rw (no_node f pair.after.now idle, no_node_news f pairs idle) refl

-- nothing is new
pub no_news : (f : Filter) (channels : List ChannelPair) (nodes : List NodePair) → f.range ≡ 0 → news_of_pairs f channels nodes ≡ []
no_news f channels nodes idle = rw (no_channel_news f channels idle, no_node_news f nodes idle) refl
