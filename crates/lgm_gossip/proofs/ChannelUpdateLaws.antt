-- channel_update: reading returns a value if and only if the bytes after the type encode it.
use Rattle.std.proofs.Common.{ℕ, ◌≤◌, List, length, drop, refl, arith}
use Rattle.std.specs.Int.{w8, w16, w32, w64}
use Rattle.lgm_gossip.specs.declared.channel_update.ChannelUpdate.{ChannelUpdate}
use Rattle.lgm_gossip.specs.ChannelUpdate.{fields}
use Rattle.lgm_gossip.specs.reading.ChannelUpdateReading.{update_in, channel_update_at}
use Rattle.lgm_gossip.proofs.WireLaws.{IsBytes, wide16, wide32, wide64}
use Rattle.lgm_gossip.proofs.FieldLaws.{IsText, wide8}
use Rattle.lgm_gossip.proofs.PlaceLaws.{fixed_is, number_is, is_fixed, is_number, IsRead, laid_out_text}

spells : (raw : List ℕ) → IsBytes raw → 138 ≤ length raw → (fields (update_in raw)).Is (drop 2 raw)
spells raw fits long =
    is_fixed 64 2 66 raw fits refl (omega (arith, long))
    (is_fixed 32 66 98 raw fits refl (omega (arith, long))
    (is_number w64 98 106 raw wide64 fits refl (omega (arith, long))
    (is_number w32 106 110 raw wide32 fits refl (omega (arith, long))
    (is_number w8 110 111 raw wide8 fits refl (omega (arith, long))
    (is_number w8 111 112 raw wide8 fits refl (omega (arith, long))
    (is_number w16 112 114 raw wide16 fits refl (omega (arith, long))
    (is_number w64 114 122 raw wide64 fits refl (omega (arith, long))
    (is_number w32 122 126 raw wide32 fits refl (omega (arith, long))
    (is_number w32 126 130 raw wide32 fits refl (omega (arith, long))
    (is_number w64 130 138 raw wide64 fits refl long refl))))))))))

pub read : (m : ChannelUpdate) (raw : List ℕ) → (fields m).Is (drop 2 raw) → IsRead (λ _. 138) update_in m raw
read m raw text =
    let a = fixed_is 64 2 66 raw m.signature refl text in
    let b = fixed_is 32 66 98 raw m.chain_hash.0 refl a.behind in
    let c = number_is w64 98 106 raw m.short_channel_id wide64 refl b.behind in
    let d = number_is w32 106 110 raw m.timestamp wide32 refl c.behind in
    let e = number_is w8 110 111 raw m.message_flags wide8 refl d.behind in
    let f = number_is w8 111 112 raw m.channel_flags wide8 refl e.behind in
    let g = number_is w16 112 114 raw m.cltv_expiry_delta wide16 refl f.behind in
    let h = number_is w64 114 122 raw m.htlc_minimum_msat wide64 refl g.behind in
    let i = number_is w32 122 126 raw m.fee_base_msat wide32 refl h.behind in
    let j = number_is w32 126 130 raw m.fee_proportional_millionths wide32 refl i.behind in
    let k = number_is w64 130 138 raw m.htlc_maximum_msat wide64 refl j.behind in
    record { long = k.long (omega arith); is = rw (a.is, b.is, c.is, d.is, e.is, f.is, g.is, h.is, i.is, j.is, k.is, k.behind) refl }

pub channel_update_text : IsText channel_update_at (λ m raw. (fields m).Is (drop 2 raw))
unfolding channel_update_at
channel_update_text = laid_out_text (λ _. 138) update_in spells read
