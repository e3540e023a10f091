use Rattle.std.proofs.Common.{◌≡◌, ◌∙◌, ◌+◌, ◌<◌, length, take, rules, ap, arith, length-append}
use Rattle.lgm_c.specs.Routing.{all_payloads}
use Rattle.lgm_c.proofs.Filling.{first_fit, one_more_payload}
use Rattle.lgm_c.proofs.routes.payloads_len.Goals as goal

pub overflow_add-count : goal.overflow_add-count
overflow_add-count c =
    let payloads = c.args.payloads.now in
    let index = c.loop-payload.payload-index in
    let payload = c.payload-item.result in
    let within : index < length payloads = search rules in
    let more : length (all_payloads (take (index + 1) payloads)) ≡ length (all_payloads (take index payloads)) + length payload =
    ap length (one_more_payload payloads index payload within c.payload-item.is) ∙ length-append (all_payloads (take index payloads)) payload in
    omega (arith, more, first_fit (index + 1) payloads, c.loop-payload.invariant, c.len-count.ensures, c.requires)
