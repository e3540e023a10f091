use Rattle.std.proofs.Common.{arith, rules}
use Rattle.std.proofs.lemmas.Result.{err_from_is_err_and}
use Rattle.lgm_gossip.specs.reading.RangeQueryReading.{range_query_at}
use Rattle.lgm_gossip.proofs.MemoryLaws.{blocks_len, fails_with}
use Rattle.lgm_gossip.proofs.range_query.RangeQuery.read.Goals as goal

pub returns-in_err-optional : goal.returns-in_err-optional
unfolding range_query_at
returns-in_err-optional c =
    let p = err_from_is_err_and c.from_residual-in_err-optional.result c.from_residual-in_err-optional.ensures.1 in
    let front =
    blocks_len c.args.bytes.now _ _ _ c.in_ok-chain_hash.ensures c.in_ok-first_blocknum.ensures c.in_ok-number_of_blocks.ensures in
    rw (p.1, p.2) (fails_with (λ few. omega (arith, few, front)) (λ fault. search rules) c.in_err-optional.ensures)
