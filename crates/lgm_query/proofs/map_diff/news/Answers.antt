use Rattle.std.proofs.Common.{refl, sym}
use Rattle.lgm_query.proofs.KeyNews.{news_at_rows}
use Rattle.lgm_query.proofs.Subjects.{spelled_tell}
use Rattle.lgm_query.proofs.map_diff.news.Goals as goal

pub loop-message-init : goal.loop-message-init
loop-message-init c =
    let f = c.args.filter.now in
    rw (
      c.new-messages.ensures.items,
      c.into_iter-message-iterator.ensures.into_iter_gives,
      c.of-message-items.ensures,
      c.deref.ensures.value,
      c.deref-2.ensures.value,
      c.in_ok-channels.ensures f refl,
      c.in_ok-nodes.ensures f refl,
    )
    (sym (news_at_rows f c.args.before.now c.args.after.now c.rows_are_lawful.ensures.ascend c.rows_are_lawful-2.ensures.ascend
    (spelled_tell c.args.before.now c.bytes_encode_rows.ensures) (spelled_tell c.args.after.now c.bytes_encode_rows-2.ensures)))
