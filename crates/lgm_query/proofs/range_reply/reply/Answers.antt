use Rattle.std.specs.Prelude.{if◌then◌else◌}
use Rattle.std.proofs.Common.{◌≡◌, Bool, true, false, List, Some, None, refl, ap, ◌∙◌}
use Rattle.lgm_gossip.specs.declared.message.Message.TheVariants as messages
use Rattle.lgm_gossip.specs.declared.timestamps.Timestamps.{Timestamps}
use Rattle.lgm_gossip.specs.RangeReply.{ReplyFields}
use Rattle.lgm_gossip.specs.Spelling.{spelling}
use Rattle.lgm_query.specs.RangeReply.{piece_at, ids_at, asks_for_timestamps, timestamps_asked_for, reply, reply_bytes}
use Rattle.lgm_query.proofs.Lengths.{length-reply}
use Rattle.lgm_query.proofs.RangeLaws.{length-ids_at, ForSome-piece, timestamps-piece, reply-parts, IfOk-same}
use Rattle.lgm_query.proofs.range_reply.reply.Goals as goal

pub encoded-requires : goal.encoded-requires
encoded-requires c =
    let own : c.from_vec.result ≡ c.ids_at-own.result.now = c.from_vec.ensures ∙ c.in_ok-from_slice.ensures.items in
    length-reply _ c.if-prove.false
    (rw (own, c.ids_at-own.ensures) (length-ids_at c.args.ids.now c.args.place))
    (rw (own, c.ids_at-own.ensures) (ForSome-piece c.args.query.now c.args.times.now c.args.ids.now
    c.args.place _ c.requires.times c.in_ok-timestamps_at.ensures))

pub returns : goal.returns
returns c = λ rows are.
    let own : c.from_vec.result ≡ ids_at c.args.ids.now c.args.place = c.from_vec.ensures ∙ c.in_ok-from_slice.ensures.items ∙ c.ids_at-own.ensures in
    let pairs : c.in_ok-timestamps_at.field-0 ≡ timestamps_asked_for rows c.args.query.now (ids_at c.args.ids.now c.args.place) =
    c.in_ok-timestamps_at.ensures ∙ ap (λ (times : List Timestamps). if asks_for_timestamps c.args.query.now
    then Some (piece_at times c.args.place) else None) are
    ∙ timestamps-piece rows c.args.query.now c.args.ids.now c.args.place in
    let m : ReplyFields = record {
      chain_hash = c.args.query.now.chain_hash;
      first_blocknum = c.reply_start.result;
      number_of_blocks = c.number_of_blocks.result;
      sync_complete = c.from.result;
      ids = c.from_vec.result;
      timestamps = c.in_ok-timestamps_at.field-0;
    } in
    let same : m ≡ reply rows c.args.query.now c.args.ids.now c.args.place =
    reply-parts rows c.args.query.now c.args.ids.now c.args.place c.reply_start.result
    c.number_of_blocks.result c.from.result c.from_vec.result c.in_ok-timestamps_at.field-0
    c.reply_start.ensures c.number_of_blocks.ensures (complete c.is_last.result refl
    ∙ ap (λ (b : Bool). if b then 1 else 0) c.is_last.ensures) own pairs in
    IfOk-same c.encoded.result (spelling (messages.RangeReply m)) (reply_bytes rows c.args.query.now c.args.ids.now c.args.place) c.encoded.ensures
    (ap (λ (r : ReplyFields). spelling (messages.RangeReply r)) same)
  where
    complete : (b : Bool) → c.is_last.result ≡ b → c.from.result ≡ (if c.is_last.result then 1 else 0)
    complete true is = rw is (rw is at c.from.ensures)
    complete false is = rw is (rw is at c.from.ensures)

pub invariant_of-message : goal.invariant_of-message
invariant_of-message c =
    let own : c.from_vec.result ≡ ids_at c.args.ids.now c.args.place = c.from_vec.ensures ∙ c.in_ok-from_slice.ensures.items ∙ c.ids_at-own.ensures in
    rw own (ForSome-piece c.args.query.now c.args.times.now c.args.ids.now c.args.place _ c.requires.times c.in_ok-timestamps_at.ensures)
