-- query_channel_range: reading returns a value if and only if the bytes encode it.
use Rattle.std.proofs.Common.{◌≡◌, ℕ, List, [], ◌∷◌, Result, Ok, Err, refl, sym, ap, ◌∙◌}
use Rattle.std.specs.Int.{w32}
use Rattle.std.proofs.lemmas.List.{append-nil}
use Rattle.lgm_wire.specs.declared.fault.WireFault.{WireFault}
use Rattle.lgm_gossip.specs.Streams.{bigsize_bytes, IsBigSize, bigsize_at}
use Rattle.lgm_gossip.specs.RangeQuery.{fields}
use Rattle.lgm_gossip.specs.reading.RangeQueryReading.{alone, options_at, range_query_at}
use Rattle.lgm_gossip.proofs.WireLaws.{wide32, bigsize_spelled, bigsize_at-bigsize_bytes, ok_is}
use Rattle.lgm_gossip.proofs.FieldLaws.{IsText, fixed_field, number_field}
use Rattle.lgm_gossip.proofs.OrderLaws.{all_reads, then_reads, last_reads}
use Rattle.lgm_gossip.proofs.OptionalLaws.{optional_field}

alone_ok : (r : Result (ℕ × List ℕ) WireFault) (v : ℕ) → alone r ≡ Ok v → r ≡ Ok (v, [])
alone_ok (Ok (x, [])) v e = ap (λ (y : ℕ). Ok (y, [])) (ok_is x v e)
alone_ok (Ok (x, b ∷ bs)) v e = absurd cc
alone_ok (Err f) v e = absurd cc

options_text : IsText options_at IsBigSize
options_text = record {
  takes = λ bytes v fits e.
      let t = bigsize_spelled bytes v [] fits (alone_ok (bigsize_at bytes) v e) in
      (t.fits, t.parts ∙ append-nil (bigsize_bytes v));
  again = λ v bytes is.
      let read : bigsize_at bytes ≡ Ok (v, []) = ap bigsize_at (is.1 ∙ sym (append-nil (bigsize_bytes v))) ∙ bigsize_at-bigsize_bytes v [] is.0 in
      rw read refl;
}

pub range_query_text : IsText range_query_at (λ m. (fields m).Is)
unfolding range_query_at
range_query_text = all_reads
    (then_reads _ (fixed_field 32) (λ m. m.chain_hash.0)
    (then_reads _ (number_field w32 wide32) (λ m. m.first_blocknum)
    (then_reads _ (number_field w32 wide32) (λ m. m.number_of_blocks)
    (last_reads _ (λ x. optional_field options_text) (λ m. m.options) (λ m. refl) (λ x a. (refl, refl))))))
