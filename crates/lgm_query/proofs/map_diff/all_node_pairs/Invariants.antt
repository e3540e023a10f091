use Rattle.std.proofs.Common.{◌≡◌, ◌++◌}
use Rattle.std.specs.Prelude.{map}
use Rattle.std.specs.List.{flat_map}
use Rattle.lgm_store.specs.Keys.{point_of}
use Rattle.lgm_query.specs.declared.filter.Filter.{Filter}
use Rattle.lgm_query.specs.KeyNews.{news_of_node}
use Rattle.lgm_query.specs.inner.Pairs.{IsAskedFor, news_of_node_pair}
use Rattle.lgm_query.proofs.map_diff.all_node_pairs.Given as goal

-- what the pairs give and what is left make the whole
abbrev pub invariant-loop-row : goal.invariant-loop-row
invariant-loop-row l =
    (f : Filter) → IsAskedFor l.only f → flat_map (news_of_node_pair f) l.pairs.items
    ++ flat_map (news_of_node f l.before l.after) (map point_of l.row-iterator)
    ≡ flat_map (news_of_node f l.before l.after) (map point_of l.after.nodes)
