use Rattle.std.proofs.Common.{sym}
use Rattle.lgm_query.proofs.NewsKeyLaws.{news_of_touched}
use Rattle.lgm_query.proofs.map_diff.MapDiff.between.Goals as goal

pub invariant_of-result : goal.invariant_of-result
invariant_of-result c = λ f.
    rw (c.in_ok-channel_pairs.ensures f, c.in_ok-node_pairs.ensures f)
    (sym (news_of_touched f c.args.before.now c.args.after.now _ c.rows_are_lawful.ensures.ascend
    c.rows_are_lawful-2.ensures.ascend
    c.bytes_encode_rows.ensures c.bytes_encode_rows-2.ensures (rw (← c.changes.view_is) at c.requires)))
