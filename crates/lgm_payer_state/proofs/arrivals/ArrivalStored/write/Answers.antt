use Rattle.std.proofs.Common.{append_assoc, refl}
use Rattle.lgm_payer_state.specs.Arrivals.{arrival_bytes}
use Rattle.lgm_payer_state.specs.reading.ArrivalsReading.{arrival_at}
use Rattle.lgm_payload.specs.Arrival.{custom_record}
use Rattle.lgm_payer_state.specs.Arrivals.{record_bytes}
use Rattle.lgm_payer_state.proofs.ListLaws.{list_mapped}
use Rattle.lgm_payer_state.proofs.arrivals.ArrivalStored.write.Goals as goal

pub returns : goal.returns
unfolding arrival_bytes arrival_at
returns c =
    let secret = c.in_ok-write_fixed.ensures in
    let secret-written = rw c.secret.ensures at secret.written in
    let secret-back = rw c.secret.ensures at secret.back in
    let total = c.in_ok-write64.ensures in
    let total-written = rw c.total.ensures at total.written in
    let total-back = rw c.total.ensures at total.back in
    let metadata = c.in_ok-write_metadata.ensures in
    let metadata-written = rw c.metadata.ensures at metadata.written in
    let metadata-back = rw c.metadata.ensures at metadata.back in
    let records = c.in_ok-write_all.ensures in
    let mapped = list_mapped custom_record record_bytes c.records.result.now in
    record {
      written = rw (records.written, metadata-written, total-written, secret-written, ← c.records.ensures, mapped) (simp append_assoc);
      back = λ rest. rw (← c.records.ensures, mapped)
          (simp (append_assoc, secret-back, total-back, metadata-back, records.back) (rw c.records.ensures refl));
    }
