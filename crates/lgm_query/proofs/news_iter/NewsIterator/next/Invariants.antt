use Rattle.std.proofs.Common.{◌≡◌, ◌+◌, ◌++◌, length}
use Rattle.std.specs.Slice.Iter.{iter_rest}
use Rattle.lgm_query.specs.inner.Pairs.{news_of_pairs}
use Rattle.lgm_query.proofs.news_iter.NewsIterator.next.Given as goal

-- the list of those still to come is unchanged
abbrev pub invariant-rows : goal.invariant-rows
invariant-rows l =
    l.self-inside.passing ++ news_of_pairs l.self-inside.filter (iter_rest l.self-inside.channels)
    (iter_rest l.self-inside.nodes) ≡ l.fn.self

abbrev pub decreases-rows : goal.decreases-rows
decreases-rows l = length (iter_rest l.self-inside.channels) + length (iter_rest l.self-inside.nodes)
