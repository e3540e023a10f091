-- reply_short_channel_ids_end: reading returns a value if and only if the bytes encode it.
use Rattle.std.proofs.Common.{refl}
use Rattle.std.specs.Int.{w8}
use Rattle.lgm_gossip.specs.IdsEnd.{fields}
use Rattle.lgm_gossip.specs.reading.IdsEndReading.{ids_end_at}
use Rattle.lgm_gossip.proofs.FieldLaws.{IsText, fixed_field, number_field, wide8}
use Rattle.lgm_gossip.proofs.OrderLaws.{all_reads, then_reads, none_reads}

pub ids_end_text : IsText ids_end_at (λ m. (fields m).Is)
unfolding ids_end_at
ids_end_text = all_reads
    (then_reads _ (fixed_field 32) (λ m. m.chain_hash.0)
    (then_reads _ (number_field w8 wide8) (λ m. m.full_information)
    (none_reads _ (λ m. refl) (λ x. refl))))
