use Rattle.std.proofs.Common.{append_assoc, length, refl}
use Rattle.lgm_payer_state.specs.Written.{counted_bytes}
use Rattle.lgm_payer_state.specs.reading.Reading.{counted_at}
use Rattle.lgm_payer_state.proofs.StepLaws.{fixed_back}
use Rattle.lgm_payer_state.proofs.fields.write_counted.Goals as goal

pub returns : goal.returns
unfolding counted_bytes counted_at
returns c =
    let count = c.in_ok-write64.ensures in
    let bytes = c.args.bytes.now in
    record {
      written = rw (c.in_ok-extend_from_slice.ensures.items, count.written) (simp append_assoc);
      back = λ rest. simp (append_assoc, count.back, fixed_back bytes rest (length bytes) refl);
    }
