-- query_short_channel_ids: reading returns a value if and only if the bytes encode it.
use Rattle.std.proofs.Common.{◌≡◌, ℕ, List, length, Option, Result, subst, refl}
use Rattle.std.specs.Option.{ForSome}
use Rattle.lgm_gossip.specs.declared.fault.DecodeFault.{DecodeFault}
use Rattle.lgm_gossip.specs.reading.OptionalReading.{optional_of}
use Rattle.lgm_gossip.specs.reading.QueryFlagsReading.{query_flags_at}
use Rattle.lgm_gossip.specs.IdsQuery.{Query, fields}
use Rattle.lgm_gossip.specs.reading.IdsQueryReading.{ids_query_at}
use Rattle.lgm_gossip.proofs.FieldLaws.{IsText, fixed_field, enclosed_field}
use Rattle.lgm_gossip.proofs.OrderLaws.{all_reads, then_reads, last_reads}
use Rattle.lgm_gossip.proofs.OptionalLaws.{optional_field, optional_for}
use Rattle.lgm_gossip.proofs.EncodedIdsLaws.{ids_text}
use Rattle.lgm_gossip.proofs.QueryFlagsLaws.{query_flags_text}

pub ids_query_text : IsText ids_query_at (λ m. (fields m).Is)
unfolding ids_query_at
ids_query_text = all_reads
    (then_reads _ (fixed_field 32) (λ m. m.chain_hash.0)
    (then_reads _ (enclosed_field ids_text) (λ m. m.ids)
    (last_reads _ (λ x. optional_field (query_flags_text (length x.1))) (λ m. m.flags) (λ m. refl) (λ x a. (refl, refl)))))

-- there is a flag for each id
pub one_each : (m : Query) (b : List ℕ) → (fields m).Is b → ForSome m.flags (λ flags. length flags ≡ length m.ids)
one_each m b is = optional_for (λ flags. length flags ≡ length m.ids) (λ flags text is. is.one_each) m.flags is.back_is.back is.back_is.back_is

pub same_count : (m n : ℕ) (b : List ℕ) (r : Result (Option (List ℕ)) DecodeFault) → m ≡ n
    → optional_of (query_flags_at m) b ≡ r → optional_of (query_flags_at n) b ≡ r
same_count m n b r same e = subst (λ (k : ℕ). optional_of (query_flags_at k) b ≡ r) same e
