use Rattle.lgm_gossip.specs.declared.segment.Segment.TheVariants.{Bytes}
use Rattle.lgm_gossip.proofs.EncodeLaws.{then_whole, then_counted, then_32, says_rest, encodes}
use Rattle.lgm_gossip.proofs.node_announce.NodeAnnounce.encode.Goals as goal

pub returns : goal.returns
returns c =
    let m = c.args.self.now in
    encodes 257 c.join.result
    (then_whole 64 c.segment.result m.signature c.segment.ensures
    (then_counted c.in_ok-features_len.features_len (Bytes c.as_slice.result) m.features c.as_slice.ensures c.in_ok-features_len.ensures
    (then_32 m.timestamp
    (then_whole 33 c.whole.result m.node_id.0 c.whole.ensures
    (then_whole 3 c.whole-2.result m.rgb_color c.whole-2.ensures
    (then_whole 32 c.whole-3.result m.alias c.whole-3.ensures
    (then_counted c.in_ok-addresses_len.addresses_len (Bytes c.as_slice-2.result) m.addresses c.as_slice-2.ensures c.in_ok-addresses_len.ensures
    (says_rest (Bytes c.as_slice-3.result) m.rest c.as_slice-3.ensures))))))))
    (record { too_long = c.join.ensures.too_long; text = c.join.ensures.text; fits = c.join.ensures.fits })
