use Rattle.std.proofs.Common.{◌≡◌, Ok, arith, rules}
use Rattle.std.proofs.lemmas.Result.{err_from_is_err_and}
use Rattle.lgm_gossip.specs.reading.EncodedIdsReading.{ids_of}
use Rattle.lgm_gossip.specs.reading.IdsQueryReading.{ids_query_at}
use Rattle.lgm_gossip.proofs.MemoryLaws.{fixed_len, enclosed_len, fails_with}
use Rattle.lgm_gossip.specs.IdsQuery.{Query}
use Rattle.lgm_gossip.proofs.IdsQueryLaws.{ids_query_text, one_each, same_count}
use Rattle.lgm_gossip.proofs.ids_query.IdsQuery.read.Goals as goal

pub returns-in_err-ids : goal.returns-in_err-ids
unfolding ids_query_at
returns-in_err-ids c =
    let p = err_from_is_err_and c.from_residual-in_err-ids.result c.from_residual-in_err-ids.ensures.1 in
    let chain = fixed_len 32 _ _ c.in_ok-chain_hash.ensures in
    rw (p.1, p.2) (fails_with (λ few. omega (arith, few, chain)) (λ fault. search rules) c.in_err-ids.ensures)

pub returns-in_err-flags : goal.returns-in_err-flags
unfolding ids_query_at
returns-in_err-flags c =
    let p = err_from_is_err_and c.from_residual-in_err-flags.result c.from_residual-in_err-flags.ensures.1 in
    let chain = fixed_len 32 _ _ c.in_ok-chain_hash.ensures in
    let ids = enclosed_len ids_of c.in_ok-chain_hash.rest.now (c.in_ok-ids.ids, c.in_ok-ids.rest.now) c.in_ok-ids.ensures in
    rw (p.1, p.2) (fails_with (λ few. omega (arith, few, chain, ids)) (λ fault.
    let flags = same_count c.len.result _ c.in_ok-ids.rest.now _ c.len.ensures fault in
    search rules) c.in_err-flags.ensures)

pub invariant_of-result : goal.invariant_of-result
unfolding ids_query_at
invariant_of-result c =
    let m : Query = record { chain_hash = record { 0 = c.in_ok-chain_hash.chain_hash }; ids = c.in_ok-ids.ids; flags = c.in_ok-flags.flags } in
    let flags = same_count c.len.result _ c.in_ok-ids.rest.now _ c.len.ensures c.in_ok-flags.ensures in
    let read : ids_query_at c.args.bytes.now ≡ Ok m = search rules in
    one_each m c.args.bytes.now (ids_query_text.takes c.args.bytes.now m (λ i. omega (arith, c.type_inv.bytes i)) read)

pub returns : goal.returns
unfolding ids_query_at
returns c =
    let flags = same_count c.len.result _ c.in_ok-ids.rest.now _ c.len.ensures c.in_ok-flags.ensures in
    search rules
