use Rattle.std.proofs.Common.{◌≡◌, ◌-◌, length, Ok, arith, rules}
use Rattle.lgm_wire.specs.reading.BigSizeReading.{bigsize_with_len}
use Rattle.lgm_wire.proofs.BigSizeClauses.{shorter, meets}
use Rattle.lgm_wire.proofs.bigsize.read_bigsize.Goals as goal

pub overflow_sub-result : goal.overflow_sub-result
overflow_sub-result c =
    shorter c.args.bytes.now c.in_ok-value.rest.now c.in_ok-value.value
    (λ i. omega (arith, c.type_inv.bytes i)) c.in_ok-value.ensures

pub returns-in_err-value : goal.returns-in_err-value
returns-in_err-value c =
    let exact : c.from_residual.result ≡ bigsize_with_len c.args.bytes.now = search rules in
    let all = meets c.args.bytes.now c.from_residual.result (λ i. omega (arith, c.type_inv.bytes i)) exact in
    record { value = all.value; cut = all.cut; not_minimal = all.not_minimal; faults = all.faults; exact = exact }

pub returns : goal.returns
returns c =
    let exact : Ok (c.in_ok-value.value, length c.args.bytes.now - length c.in_ok-value.rest.now)
    ≡ bigsize_with_len c.args.bytes.now =
    search rules in
    let all = meets c.args.bytes.now _ (λ i. omega (arith, c.type_inv.bytes i)) exact in
    record { value = all.value; cut = all.cut; not_minimal = all.not_minimal; faults = all.faults; exact = exact }
