-- reply_channel_range: reading returns a value if and only if the bytes encode it.
use Rattle.std.proofs.Common.{◌≡◌, ℕ, List, length, Option, Result, subst, refl}
use Rattle.std.specs.Int.{w8, w32}
use Rattle.std.specs.Option.{ForSome}
use Rattle.lgm_gossip.specs.declared.fault.DecodeFault.{DecodeFault}
use Rattle.lgm_gossip.specs.declared.timestamps.Timestamps.{Timestamps}
use Rattle.lgm_gossip.specs.reading.OptionalReading.{optional_of}
use Rattle.lgm_gossip.specs.reading.TimestampListReading.{timestamps_at}
use Rattle.lgm_gossip.specs.RangeReply.{ReplyFields, fields}
use Rattle.lgm_gossip.specs.reading.RangeReplyReading.{range_reply_at}
use Rattle.lgm_gossip.proofs.WireLaws.{wide32}
use Rattle.lgm_gossip.proofs.FieldLaws.{IsText, fixed_field, number_field, enclosed_field, wide8}
use Rattle.lgm_gossip.proofs.OrderLaws.{all_reads, then_reads, last_reads}
use Rattle.lgm_gossip.proofs.OptionalLaws.{optional_field, optional_for}
use Rattle.lgm_gossip.proofs.EncodedIdsLaws.{ids_text}
use Rattle.lgm_gossip.proofs.TimestampListLaws.{timestamps_text}

pub range_reply_text : IsText range_reply_at (λ m. (fields m).Is)
unfolding range_reply_at
range_reply_text = all_reads
    (then_reads _ (fixed_field 32) (λ m. m.chain_hash.0)
    (then_reads _ (number_field w32 wide32) (λ m. m.first_blocknum)
    (then_reads _ (number_field w32 wide32) (λ m. m.number_of_blocks)
    (then_reads _ (number_field w8 wide8) (λ m. m.sync_complete)
    (then_reads _ (enclosed_field ids_text) (λ m. m.ids)
    (last_reads _ (λ x. optional_field (timestamps_text (length x.1))) (λ m. m.timestamps) (λ m. refl) (λ x a. (refl, refl))))))))

-- there is a pair of timestamps for each id
pub one_each : (m : ReplyFields) (b : List ℕ) → (fields m).Is b → ForSome m.timestamps (λ pairs. length pairs ≡ length m.ids)
one_each m b is =
    let ids_on = is.back_is.back_is.back_is.back_is in
    optional_for (λ pairs. length pairs ≡ length m.ids) (λ pairs text is. is.one_each) m.timestamps ids_on.back ids_on.back_is

pub same_count : (m n : ℕ) (b : List ℕ) (r : Result (Option (List Timestamps)) DecodeFault) → m ≡ n
    → optional_of (timestamps_at m) b ≡ r → optional_of (timestamps_at n) b ≡ r
same_count m n b r same e = subst (λ (k : ℕ). optional_of (timestamps_at k) b ≡ r) same e
