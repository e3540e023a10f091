use Rattle.std.proofs.Common.{sym}
use Rattle.lgm_query.proofs.KeyNews.{news_at_rows}
use Rattle.lgm_query.proofs.Subjects.{spelled_tell}
use Rattle.lgm_query.proofs.map_diff.MapDiff.of_maps.Goals as goal

pub invariant_of-result : goal.invariant_of-result
invariant_of-result c = λ f.
    rw (c.in_ok-all_channel_pairs.ensures f tt, c.in_ok-all_node_pairs.ensures f tt)
    (sym (news_at_rows f c.args.before.now c.args.after.now c.rows_are_lawful.ensures.ascend c.rows_are_lawful-2.ensures.ascend
    (spelled_tell c.args.before.now c.bytes_encode_rows.ensures) (spelled_tell c.args.after.now c.bytes_encode_rows-2.ensures)))
