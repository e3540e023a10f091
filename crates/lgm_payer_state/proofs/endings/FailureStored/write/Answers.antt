use Rattle.std.proofs.Common.{append_assoc}
use Rattle.lgm_payer_state.specs.Payments.{failure_bytes}
use Rattle.lgm_payer_state.specs.reading.PaymentsReading.{failure_at}
use Rattle.lgm_payer_state.proofs.endings.FailureStored.write.Goals as goal

pub returns : goal.returns
unfolding failure_bytes failure_at
returns c =
    let place = c.in_ok-write64.ensures in
    let code = c.in_ok-write16.ensures in
    let renewed = c.in_ok-write_flag.ensures in
    record {
      written = rw (renewed.written, code.written, place.written) (simp append_assoc);
      back = λ rest. simp (append_assoc, place.back, code.back, renewed.back);
    }
