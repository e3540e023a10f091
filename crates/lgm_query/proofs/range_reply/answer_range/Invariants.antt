use Rattle.std.proofs.Common.{◌≡◌, map}
use Rattle.std.specs.List.{range_with_len}
use Rattle.lgm_query.specs.RangeReply.{reply_bytes}
use Rattle.lgm_query.proofs.range_reply.answer_range.Given as goal

abbrev pub invariant-loop-place : goal.invariant-loop-place
invariant-loop-place l = l.replies.items ≡ map (reply_bytes l.fn.map l.fn.query l.ids) (range_with_len 0 l.place)
