use Rattle.lgm_gossip.specs.declared.ids_end.IdsEnd.{IdsEnd}
use Rattle.lgm_query.proofs.Lengths.{length-end}
use Rattle.lgm_query.proofs.ids_reply.end.Goals as goal

pub encoded-requires : goal.encoded-requires
encoded-requires c =
    let m : IdsEnd = record { chain_hash = c.query.inside.chain_hash; full_information = c.args.full_information } in
    length-end m c.if-prove.false
