use Rattle.lgm_gossip.specs.declared.segment.Segment.TheVariants.{Bytes}
use Rattle.lgm_gossip.proofs.EncodeLaws.{then_whole, then_counted, then_64, says_rest, encodes}
use Rattle.lgm_gossip.proofs.announce.Announce.encode.Goals as goal

pub returns : goal.returns
returns c =
    let m = c.args.self.now in
    encodes 256 c.join.result
    (then_whole 64 c.segment.result m.node_signature_1 c.segment.ensures
    (then_whole 64 c.segment-2.result m.node_signature_2 c.segment-2.ensures
    (then_whole 64 c.segment-3.result m.bitcoin_signature_1 c.segment-3.ensures
    (then_whole 64 c.segment-4.result m.bitcoin_signature_2 c.segment-4.ensures
    (then_counted c.in_ok-features_len.features_len (Bytes c.as_slice.result) m.features c.as_slice.ensures c.in_ok-features_len.ensures
    (then_whole 32 c.whole.result m.chain_hash.0 c.whole.ensures
    (then_64 c.to_u64.result m.short_channel_id c.to_u64.ensures
    (then_whole 33 c.whole-2.result m.node_id_1.0 c.whole-2.ensures
    (then_whole 33 c.whole-3.result m.node_id_2.0 c.whole-3.ensures
    (then_whole 33 c.whole-4.result m.bitcoin_key_1.0 c.whole-4.ensures
    (then_whole 33 c.whole-5.result m.bitcoin_key_2.0 c.whole-5.ensures
    (says_rest (Bytes c.as_slice-2.result) m.rest c.as_slice-2.ensures))))))))))))
    (record { too_long = c.join.ensures.too_long; text = c.join.ensures.text; fits = c.join.ensures.fits })
