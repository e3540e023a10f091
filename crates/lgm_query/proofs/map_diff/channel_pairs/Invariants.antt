use Rattle.std.proofs.Common.{◌≡◌, ◌++◌}
use Rattle.std.specs.List.{flat_map}
use Rattle.lgm_query.specs.declared.filter.Filter.{Filter}
use Rattle.lgm_query.specs.KeyNews.{news_of_channel}
use Rattle.lgm_query.specs.inner.Pairs.{news_of_channel_pair}
use Rattle.lgm_query.proofs.map_diff.channel_pairs.Given as goal

-- what the pairs give and what is left make the whole
abbrev pub invariant-loop-scid : goal.invariant-loop-scid
invariant-loop-scid l =
    (f : Filter) → flat_map (news_of_channel_pair f) l.pairs.items ++ flat_map (news_of_channel f l.before
    l.after) l.scid-iterator ≡ flat_map (news_of_channel f l.before l.after) l.scids.keys
