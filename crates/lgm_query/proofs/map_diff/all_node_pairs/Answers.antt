use Rattle.std.proofs.Common.{◌∙◌}
use Rattle.std.specs.Prelude.{map}
use Rattle.lgm_store.specs.Keys.{point_of}
use Rattle.lgm_query.specs.KeyNews.{news_of_node}
use Rattle.lgm_query.specs.inner.Pairs.{news_of_node_pair}
use Rattle.lgm_query.proofs.PairLaws.{one_more, none_more}
use Rattle.lgm_query.proofs.map_diff.all_node_pairs.Goals as goal

pub loop-row-preserved-in-Continue-1 : goal.loop-row-preserved-in-Continue-1
loop-row-preserved-in-Continue-1 c = λ f asked.
    rw c.in_ok-push.ensures.items
    (one_more (news_of_node_pair f) (news_of_node f c.args.before.now c.args.after.now) c.loop-row.pairs.items c.in-Some-passing.pair
    (point_of c.in-Some.row.now) (map point_of c.next.new.self)
    (rw c.node.ensures at c.in-Some-passing.ensures f asked))
    ∙ rw c.in-Some.ensures.steps at c.loop-row.invariant f asked

pub loop-row-preserved : goal.loop-row-preserved
loop-row-preserved c = λ f asked.
    none_more (news_of_node_pair f) (news_of_node f c.args.before.now c.args.after.now) c.loop-row.pairs.items
    (point_of c.in-Some.row.now) (map point_of c.next.new.self)
    (rw c.node.ensures at c.in_default.ensures f asked)
    ∙ rw c.in-Some.ensures.steps at c.loop-row.invariant f asked
