use Rattle.lgm_gossip.specs.Streams.{bigsize_bytes}
use Rattle.lgm_gossip.proofs.EncodeLaws.{then_whole, then_32, says_none, says_same, says_options, encodes}
use Rattle.lgm_gossip.proofs.range_query.RangeQuery.encode.Goals as goal

pub returns-in_default : goal.returns-in_default
returns-in_default c =
    let m = c.args.self.now in
    encodes 263 c.join.result
    (then_whole 32 c.whole.result m.chain_hash.0 c.whole.ensures
    (then_32 m.first_blocknum
    (then_32 m.number_of_blocks
    (says_same bigsize_bytes c.in_default.is (says_none bigsize_bytes)))))
    (record { too_long = c.join.ensures.too_long; text = c.join.ensures.text; fits = c.join.ensures.fits })

pub returns : goal.returns
returns c =
    let m = c.args.self.now in
    encodes 263 c.join-2.result
    (then_whole 32 c.whole-2.result m.chain_hash.0 c.whole-2.ensures
    (then_32 m.first_blocknum
    (then_32 m.number_of_blocks
    (says_same bigsize_bytes c.in-Some.is (says_options c.bigsize_len.result c.in-Some.options c.bigsize_len.ensures)))))
    (record { too_long = c.join-2.ensures.too_long; text = c.join-2.ensures.text; fits = c.join-2.ensures.fits })
