-- gossip_timestamp_filter: reading returns a value if and only if the bytes encode it.
use Rattle.std.proofs.Common.{refl}
use Rattle.std.specs.Int.{w32}
use Rattle.lgm_gossip.specs.FilterMsg.{fields}
use Rattle.lgm_gossip.specs.reading.FilterMsgReading.{filter_msg_at}
use Rattle.lgm_gossip.proofs.WireLaws.{wide32}
use Rattle.lgm_gossip.proofs.FieldLaws.{IsText, fixed_field, number_field}
use Rattle.lgm_gossip.proofs.OrderLaws.{all_reads, then_reads, none_reads}

pub filter_msg_text : IsText filter_msg_at (λ m. (fields m).Is)
unfolding filter_msg_at
filter_msg_text = all_reads
    (then_reads _ (fixed_field 32) (λ m. m.chain_hash.0)
    (then_reads _ (number_field w32 wide32) (λ m. m.first_timestamp)
    (then_reads _ (number_field w32 wide32) (λ m. m.timestamp_range)
    (none_reads _ (λ m. refl) (λ x. refl)))))
