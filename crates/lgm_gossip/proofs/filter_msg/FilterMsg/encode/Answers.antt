use Rattle.lgm_gossip.proofs.EncodeLaws.{then_whole, then_32, says_nothing, encodes}
use Rattle.lgm_gossip.proofs.filter_msg.FilterMsg.encode.Goals as goal

pub returns : goal.returns
returns c =
    let m = c.args.self.now in
    encodes 265 c.join.result
    (then_whole 32 c.whole.result m.chain_hash.0 c.whole.ensures
    (then_32 m.first_timestamp
    (then_32 m.timestamp_range
    says_nothing)))
    (record { too_long = c.join.ensures.too_long; text = c.join.ensures.text; fits = c.join.ensures.fits })
