use Rattle.std.proofs.Common.{append_assoc}
use Rattle.lgm_payer_state.specs.Payments.{part_bytes}
use Rattle.lgm_payer_state.specs.reading.PaymentsReading.{part_at}
use Rattle.lgm_payer_state.proofs.PaymentLaws.{route_fits}
use Rattle.lgm_payer_state.proofs.parts.PartStored.write.Goals as goal

pub returns : goal.returns
unfolding part_bytes part_at
returns c =
    let number = c.in_ok-write64.ensures in
    let hops = c.in_ok-write_all.ensures in
    let hops-written = rw c.as_slice.ensures.hops at hops.written in
    let hops-back = rw c.as_slice.ensures.hops at hops.back in
    let amount = c.in_ok-write64-2.ensures in
    let fee = c.in_ok-write64-3.ensures in
    let blocks = c.in_ok-write32.ensures in
    let ending = c.in_ok-write.ensures in
    let some = rw c.as_slice.ensures.hops at c.as_slice.ensures.some in
    let few = rw c.as_slice.ensures.hops at c.as_slice.ensures.few in
    let route = route_fits c.args.self.now.route some few in
    record {
      written = rw (ending.written, blocks.written, fee.written, amount.written, hops-written, number.written) (simp append_assoc);
      back = λ rest. simp (append_assoc, number.back, hops-back, route, amount.back, fee.back, blocks.back, ending.back);
    }
