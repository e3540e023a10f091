use Rattle.std.proofs.Common.{◌≡◌, ◌++◌}
use Rattle.std.specs.Prelude.{map}
use Rattle.std.specs.List.{flat_map}
use Rattle.lgm_store.specs.Keys.{id_of}
use Rattle.lgm_query.specs.declared.filter.Filter.{Filter}
use Rattle.lgm_query.specs.KeyNews.{news_of_channel}
use Rattle.lgm_query.specs.inner.Pairs.{IsAskedFor, news_of_channel_pair}
use Rattle.lgm_query.proofs.map_diff.all_channel_pairs.Given as goal

-- what the pairs give and what is left make the whole
abbrev pub invariant-loop-stored : goal.invariant-loop-stored
invariant-loop-stored l =
    (f : Filter) → IsAskedFor l.only f → flat_map (news_of_channel_pair f) l.pairs.items
    ++ flat_map (news_of_channel f l.before l.after) (map (λ stored. id_of stored.channel) l.stored-iterator)
    ≡ flat_map (news_of_channel f l.before l.after) (map id_of l.after.channels)
