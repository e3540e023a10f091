use Rattle.lgm_gossip.proofs.EncodeLaws.{then_whole, then_8, says_nothing, encodes}
use Rattle.lgm_gossip.proofs.ids_end.IdsEnd.encode.Goals as goal

pub returns : goal.returns
returns c =
    let m = c.args.self.now in
    encodes 262 c.join.result
    (then_whole 32 c.whole.result m.chain_hash.0 c.whole.ensures
    (then_8 m.full_information
    says_nothing))
    (record { too_long = c.join.ensures.too_long; text = c.join.ensures.text; fits = c.join.ensures.fits })
