use Rattle.std.proofs.Common.{◌≡◌, ◌++◌}
use Rattle.std.specs.List.{flat_map}
use Rattle.lgm_query.specs.declared.filter.Filter.{Filter}
use Rattle.lgm_query.specs.KeyNews.{news_of_node}
use Rattle.lgm_query.specs.inner.Pairs.{news_of_node_pair}
use Rattle.lgm_query.proofs.map_diff.node_pairs.Given as goal

-- what the pairs give and what is left make the whole
abbrev pub invariant-loop-node : goal.invariant-loop-node
invariant-loop-node l =
    (f : Filter) → flat_map (news_of_node_pair f) l.pairs.items ++ flat_map (news_of_node f l.before l.after)
    l.node-iterator ≡ flat_map (news_of_node f l.before l.after) l.nodes.keys
