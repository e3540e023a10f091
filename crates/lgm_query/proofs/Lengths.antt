-- The lengths of replies.
use Rattle.std.proofs.Common.{◌≡◌, ℕ, suc, ◌+◌, ◌*◌, ◌≤◌, Bool, true, false, List, [], ◌∷◌}
use Rattle.std.proofs.Common.{◌++◌, length, Option, Some, None, arith, refl, length-append}
use Rattle.std.specs.Prelude.{nat_lt}
use Rattle.std.specs.List.{flat_map}
use Rattle.std.specs.Option.{ForSome}
use Rattle.std.specs.Int.{w64, to_be_bytes}
use Rattle.lgm_gossip.specs.declared.ids_end.IdsEnd.{IdsEnd}
use Rattle.lgm_gossip.specs.declared.timestamps.Timestamps.{Timestamps}
use Rattle.lgm_gossip.specs.declared.message.Message.TheVariants as messages
use Rattle.lgm_gossip.specs.Streams.{bigsize_bytes}
use Rattle.lgm_gossip.specs.TimestampList.{pair_bytes}
use Rattle.lgm_gossip.specs.RangeReply.{ReplyFields}
use Rattle.lgm_gossip.specs.Spelling.{spelling, pairs_text, option_text}

-- the end of a reply by ids
pub length-end : (m : IdsEnd) → length m.chain_hash.0 ≡ 32 → length (spelling (messages.IdsEnd m)) ≤ 65535
length-end m chain = omega (arith, length-append {A = ℕ})

-- ids have eight bytes each
length-ids : (ids : List ℕ) → length (flat_map (to_be_bytes w64) ids) ≡ 8 * length ids
length-ids [] = refl
length-ids (id ∷ ids) = omega (arith, length-append {A = ℕ}, length-ids ids)

-- and pairs of timestamps too
length-pairs : (pairs : List Timestamps) → length (flat_map pair_bytes pairs) ≡ 8 * length pairs
length-pairs [] = refl
length-pairs (pair ∷ pairs) = omega (arith, length-append {A = ℕ}, length-pairs pairs)

-- no number has more than nine bytes
length-bigsize : (n : ℕ) → length (bigsize_bytes n) ≤ 9
length-bigsize n = by (nat_lt n 0xfd) refl (nat_lt n 0x10000) refl (nat_lt n 0x100000000) refl
  where
    by : (a : Bool) → nat_lt n 0xfd ≡ a → (b : Bool) → nat_lt n 0x10000 ≡ b → (c : Bool) → nat_lt n 0x100000000 ≡ c → length (bigsize_bytes n) ≤ 9
    by true is b b_is c c_is = rw is (omega arith)
    by false is true b_is c c_is = rw (is, b_is) (omega arith)
    by false is false b_is true c_is = rw (is, b_is, c_is) (omega arith)
    by false is false b_is false c_is = rw (is, b_is, c_is) (omega arith)

-- a record of type 1
length-record : (size value : List ℕ) (n : ℕ) → length size ≤ 9 → length value + 10 ≤ n → suc (length (size ++ value)) ≤ n
length-record size value n few fits = omega (arith, length-append size value)

-- the record of timestamps, if there is one
length-option : (pairs : Option (List Timestamps)) (count : ℕ) → ForSome pairs (λ ps. length ps ≡ count)
    → length (option_text pairs_text pairs) ≤ 8 * count + 11
length-option None count are = omega arith
length-option (Some ps) count are =
    let eight : length (flat_map pair_bytes ps) ≡ 8 * length ps = length-pairs ps in
    let many : length ps ≡ count = are ps refl in
    length-record (bigsize_bytes (length (pairs_text ps))) (pairs_text ps) (8 * count + 11) (length-bigsize (length (pairs_text ps))) (omega arith)

-- a reply of at most 4,000 ids
pub length-reply : (m : ReplyFields) → length m.chain_hash.0 ≡ 32 → length m.ids ≤ 4000 → ForSome m.timestamps
    (λ pairs. length pairs ≡ length m.ids) → length (spelling (messages.RangeReply m)) ≤ 65535
length-reply m chain few pairs =
    let eight : length (flat_map (to_be_bytes w64) m.ids) ≡ 8 * length m.ids = length-ids m.ids in
    let more : length (option_text pairs_text m.timestamps) ≤ 8 * length m.ids + 11 = length-option m.timestamps (length m.ids) pairs in
    simp length-append (omega arith)
