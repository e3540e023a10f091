use Rattle.std.proofs.Common.{◌≡◌, Ok, arith, rules}
use Rattle.std.specs.Int.{w8}
use Rattle.std.proofs.lemmas.Result.{err_from_is_err_and}
use Rattle.lgm_gossip.specs.reading.EncodedIdsReading.{ids_of}
use Rattle.lgm_gossip.specs.reading.RangeReplyReading.{range_reply_at}
use Rattle.lgm_gossip.proofs.MemoryLaws.{blocks_len, number_len, enclosed_len, fails_with}
use Rattle.lgm_gossip.specs.RangeReply.{ReplyFields}
use Rattle.lgm_gossip.proofs.RangeReplyLaws.{range_reply_text, one_each, same_count}
use Rattle.lgm_gossip.proofs.range_reply.RangeReply.read.Goals as goal

pub returns-in_err-ids : goal.returns-in_err-ids
unfolding range_reply_at
returns-in_err-ids c =
    let p = err_from_is_err_and c.from_residual-in_err-ids.result c.from_residual-in_err-ids.ensures.1 in
    let front =
    blocks_len c.args.bytes.now _ _ _ c.in_ok-chain_hash.ensures c.in_ok-first_blocknum.ensures c.in_ok-number_of_blocks.ensures in
    let complete = number_len w8 _ _ c.in_ok-sync_complete.ensures in
    rw (p.1, p.2) (fails_with (λ few. omega (arith, few, front, complete)) (λ fault. search rules) c.in_err-ids.ensures)

pub returns-in_err-timestamps : goal.returns-in_err-timestamps
unfolding range_reply_at
returns-in_err-timestamps c =
    let p = err_from_is_err_and c.from_residual-in_err-timestamps.result c.from_residual-in_err-timestamps.ensures.1 in
    let front =
    blocks_len c.args.bytes.now _ _ _ c.in_ok-chain_hash.ensures c.in_ok-first_blocknum.ensures c.in_ok-number_of_blocks.ensures in
    let complete = number_len w8 _ _ c.in_ok-sync_complete.ensures in
    let ids = enclosed_len ids_of c.in_ok-sync_complete.rest.now (c.in_ok-ids.ids, c.in_ok-ids.rest.now) c.in_ok-ids.ensures in
    rw (p.1, p.2) (fails_with (λ few. omega (arith, few, front, complete, ids)) (λ fault.
    let timestamps = same_count c.len.result _ c.in_ok-ids.rest.now _ c.len.ensures fault in
    search rules) c.in_err-timestamps.ensures)

pub invariant_of-result : goal.invariant_of-result
unfolding range_reply_at
invariant_of-result c =
    let m : ReplyFields = record {
      chain_hash = record { 0 = c.in_ok-chain_hash.chain_hash };
      first_blocknum = c.in_ok-first_blocknum.first_blocknum;
      number_of_blocks = c.in_ok-number_of_blocks.number_of_blocks;
      sync_complete = c.in_ok-sync_complete.sync_complete;
      ids = c.in_ok-ids.ids;
      timestamps = c.in_ok-timestamps.timestamps;
    } in
    let timestamps = same_count c.len.result _ c.in_ok-ids.rest.now _ c.len.ensures c.in_ok-timestamps.ensures in
    let read : range_reply_at c.args.bytes.now ≡ Ok m = search rules in
    one_each m c.args.bytes.now (range_reply_text.takes c.args.bytes.now m (λ i. omega (arith, c.type_inv.bytes i)) read)

pub returns : goal.returns
unfolding range_reply_at
returns c =
    let timestamps = same_count c.len.result _ c.in_ok-ids.rest.now _ c.len.ensures c.in_ok-timestamps.ensures in
    search rules
