use Rattle.std.proofs.Common.{refl}
use Rattle.lgm_gossip.specs.declared.segment.Segment.TheVariants.{Bytes}
use Rattle.lgm_gossip.proofs.EncodeLaws.{then_whole, then_8, then_16, then_32, then_64, says_rest, encodes}
use Rattle.lgm_gossip.proofs.channel_update.ChannelUpdate.encode.Goals as goal

pub returns : goal.returns
returns c =
    let m = c.args.self.now in
    encodes 258 c.join.result
    (then_whole 64 c.segment.result m.signature c.segment.ensures
    (then_whole 32 c.whole.result m.chain_hash.0 c.whole.ensures
    (then_64 c.to_u64.result m.short_channel_id c.to_u64.ensures
    (then_32 m.timestamp
    (then_8 m.message_flags
    (then_8 m.channel_flags
    (then_16 m.cltv_expiry_delta
    (then_64 m.htlc_minimum_msat m.htlc_minimum_msat refl
    (then_32 m.fee_base_msat
    (then_32 m.fee_proportional_millionths
    (then_64 m.htlc_maximum_msat m.htlc_maximum_msat refl
    (says_rest (Bytes c.as_slice.result) m.rest c.as_slice.ensures))))))))))))
    (record { too_long = c.join.ensures.too_long; text = c.join.ensures.text; fits = c.join.ensures.fits })
