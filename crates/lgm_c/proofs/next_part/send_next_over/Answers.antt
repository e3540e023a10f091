use Rattle.std.proofs.Common.{◌≡◌, Some, Option, sym, subst}
use Rattle.lgm_c.specs.MapState.{MapState}
use Rattle.lgm_c.specs.Paying.{part_buffers, SendsOver}
use Rattle.lgm_c.proofs.next_part.send_next_over.Goals as goal

pub returns-in-Some-clause-sends : goal.returns-in-Some-clause-sends
returns-in-Some-clause-sends c =
    let before : c.args.map.now.value ≡ Some c.deref_mut.result.now = cc (c.in-Some.ensures.taken, c.deref_mut.ensures.value) in
    subst (λ (map : Option MapState). SendsOver c.args.sight.now c.args.payment c.send_next-answer.result map c.args.held.now
    c.send_next-answer.new.held (part_buffers c.args.part.now c.args.hops.now c.args.payloads.now)
    (part_buffers c.send_next-answer.new.part c.send_next-answer.new.hops c.send_next-answer.new.payloads)) (sym before)
    c.send_next-answer.ensures.sends
