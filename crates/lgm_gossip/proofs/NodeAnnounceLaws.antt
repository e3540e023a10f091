-- node_announcement: reading returns a value if and only if the bytes after the type encode it.
use Rattle.std.proofs.Common.{◌≡◌, ℕ, ◌+◌, ◌≤◌, List, length, drop, refl, arith}
use Rattle.std.specs.Int.{w32}
use Rattle.lgm_gossip.specs.declared.node_announce.NodeAnnounce.{NodeAnnounce}
use Rattle.lgm_gossip.specs.NodeAnnounce.{fields}
use Rattle.lgm_gossip.specs.reading.NodeAnnounceReading.{features_len, addresses_len, node_len, node_with, node_in, node_announce_at}
use Rattle.lgm_gossip.proofs.WireLaws.{IsBytes, wide32}
use Rattle.lgm_gossip.proofs.FieldLaws.{IsText}
use Rattle.lgm_gossip.proofs.PlaceLaws.{fixed_is, number_is, counted_is, is_fixed, is_number, is_counted, IsRead, laid_out_text}

spells : (raw : List ℕ) → IsBytes raw → node_len raw ≤ length raw → (fields (node_in raw)).Is (drop 2 raw)
spells raw fits long =
    let n = features_len raw in
    let k = addresses_len n raw in
    is_fixed 64 2 66 raw fits refl (omega (arith, long))
    (is_counted 66 68 (68 + n) raw fits refl refl (omega (arith, long))
    (is_number w32 (68 + n) (72 + n) raw wide32 fits (omega arith) (omega (arith, long))
    (is_fixed 33 (72 + n) (105 + n) raw fits (omega arith) (omega (arith, long))
    (is_fixed 3 (105 + n) (108 + n) raw fits (omega arith) (omega (arith, long))
    (is_fixed 32 (108 + n) (140 + n) raw fits (omega arith) (omega (arith, long))
    (is_counted (140 + n) (142 + n) (142 + n + k) raw fits (omega arith) refl long refl))))))

pub read : (m : NodeAnnounce) (raw : List ℕ) → (fields m).Is (drop 2 raw) → IsRead node_len node_in m raw
read m raw text =
    let n = length m.features in
    let k = length m.addresses in
    let a = fixed_is 64 2 66 raw m.signature refl text in
    let b = counted_is 66 68 (68 + n) raw m.features refl refl a.behind in
    let c = number_is w32 (68 + n) (72 + n) raw m.timestamp wide32 (omega arith) b.behind in
    let d = fixed_is 33 (72 + n) (105 + n) raw m.node_id.0 (omega arith) c.behind in
    let e = fixed_is 3 (105 + n) (108 + n) raw m.rgb_color (omega arith) d.behind in
    let f = fixed_is 32 (108 + n) (140 + n) raw m.alias (omega arith) e.behind in
    let g = counted_is (140 + n) (142 + n) (142 + n + k) raw m.addresses (omega arith) refl f.behind in
    let known : node_with n k raw ≡ m = rw (a.is, b.is, c.is, d.is, e.is, f.is, g.is, g.behind) refl in
    record { long = rw (b.len, g.len) g.long; is = rw (b.len, g.len) known }

pub node_announce_text : IsText node_announce_at (λ m raw. (fields m).Is (drop 2 raw))
unfolding node_announce_at
node_announce_text = laid_out_text node_len node_in spells read
