-- channel_announcement: reading returns a value if and only if the bytes after the type encode it.
use Rattle.std.proofs.Common.{◌≡◌, ℕ, ◌+◌, ◌≤◌, List, length, drop, refl, ap, ◌∙◌, arith}
use Rattle.std.specs.Int.{w64}
use Rattle.lgm_gossip.specs.declared.announce.Announce.{Announce}
use Rattle.lgm_gossip.specs.Announce.{fields}
use Rattle.lgm_gossip.specs.reading.AnnounceReading.{features_len, announce_len, announce_with, announce_in, announce_at}
use Rattle.lgm_gossip.proofs.WireLaws.{IsBytes, wide64}
use Rattle.lgm_gossip.proofs.FieldLaws.{IsText}
use Rattle.lgm_gossip.proofs.PlaceLaws.{fixed_is, number_is, counted_is, is_fixed, is_number, is_counted, IsRead, laid_out_text}

spells : (raw : List ℕ) → IsBytes raw → announce_len raw ≤ length raw → (fields (announce_in raw)).Is (drop 2 raw)
spells raw fits long =
    let n = features_len raw in
    is_fixed 64 2 66 raw fits refl (omega (arith, long))
    (is_fixed 64 66 130 raw fits refl (omega (arith, long))
    (is_fixed 64 130 194 raw fits refl (omega (arith, long))
    (is_fixed 64 194 258 raw fits refl (omega (arith, long))
    (is_counted 258 260 (260 + n) raw fits refl refl (omega (arith, long))
    (is_fixed 32 (260 + n) (292 + n) raw fits (omega arith) (omega (arith, long))
    (is_number w64 (292 + n) (300 + n) raw wide64 fits (omega arith) (omega (arith, long))
    (is_fixed 33 (300 + n) (333 + n) raw fits (omega arith) (omega (arith, long))
    (is_fixed 33 (333 + n) (366 + n) raw fits (omega arith) (omega (arith, long))
    (is_fixed 33 (366 + n) (399 + n) raw fits (omega arith) (omega (arith, long))
    (is_fixed 33 (399 + n) (432 + n) raw fits (omega arith) long refl))))))))))

pub read : (m : Announce) (raw : List ℕ) → (fields m).Is (drop 2 raw) → IsRead announce_len announce_in m raw
read m raw text =
    let n = length m.features in
    let a = fixed_is 64 2 66 raw m.node_signature_1 refl text in
    let b = fixed_is 64 66 130 raw m.node_signature_2 refl a.behind in
    let c = fixed_is 64 130 194 raw m.bitcoin_signature_1 refl b.behind in
    let d = fixed_is 64 194 258 raw m.bitcoin_signature_2 refl c.behind in
    let e = counted_is 258 260 (260 + n) raw m.features refl refl d.behind in
    let f = fixed_is 32 (260 + n) (292 + n) raw m.chain_hash.0 (omega arith) e.behind in
    let g = number_is w64 (292 + n) (300 + n) raw m.short_channel_id wide64 (omega arith) f.behind in
    let h = fixed_is 33 (300 + n) (333 + n) raw m.node_id_1.0 (omega arith) g.behind in
    let i = fixed_is 33 (333 + n) (366 + n) raw m.node_id_2.0 (omega arith) h.behind in
    let j = fixed_is 33 (366 + n) (399 + n) raw m.bitcoin_key_1.0 (omega arith) i.behind in
    let k = fixed_is 33 (399 + n) (432 + n) raw m.bitcoin_key_2.0 (omega arith) j.behind in
    let known : announce_with n raw ≡ m = rw (a.is, b.is, c.is, d.is, e.is, f.is, g.is, h.is, i.is, j.is, k.is, k.behind) refl in
    record { long = rw e.len (k.long (omega arith)); is = ap (λ (len : ℕ). announce_with len raw) e.len ∙ known }

pub announce_text : IsText announce_at (λ m raw. (fields m).Is (drop 2 raw))
unfolding announce_at
announce_text = laid_out_text announce_len announce_in spells read
