use Rattle.std.proofs.Common.{◌≡◌, ◌∙◌, ◌+◌, ◌<◌, length, take, drop, rules, sym, ap, arith, length-append, length-drop}
use Rattle.std.specs.Prelude.{◌-◌}
use Rattle.std.proofs.lemmas.List.{take_rest}
use borrow.Rule.Slice.PartMut.{put_mid}
use Rattle.lgm_c.specs.Routing.{all_payloads}
use Rattle.lgm_c.specs.Writing.{in_front}
use Rattle.lgm_c.proofs.Filling.{fill_more, first_fit, one_more_payload}
use Rattle.lgm_c.proofs.routes.fill_payloads.Goals as goal

pub copy_in_front-requires : goal.copy_in_front-requires
copy_in_front-requires c =
    let payloads = c.args.payloads.now in
    let index = c.loop-payload.payload-index in
    let payload = c.payload-item.result in
    let within : index < length payloads = search rules in
    let more : length (all_payloads (take (index + 1) payloads)) ≡ length (all_payloads (take index payloads)) + length payload =
    ap length (one_more_payload payloads index payload within c.payload-item.is) ∙ length-append (all_payloads (take index payloads)) payload in
    let left : length (take (length c.loop-payload.room - c.loop-payload.filled) (drop c.loop-payload.filled c.loop-payload.room))
    ≡ length c.loop-payload.room - c.loop-payload.filled =
    ap length (take_rest c.loop-payload.room c.loop-payload.filled) ∙ length-drop c.loop-payload.filled c.loop-payload.room in
    let same : length c.as_slice.result.now ≡ length payload = ap length c.as_slice.ensures in
    omega (arith, more, left, same, first_fit (index + 1) payloads, c.loop-payload.invariant.count, c.loop-payload.auto.room, c.requires)

pub loop-payload-preserved : goal.loop-payload-preserved
loop-payload-preserved c =
    let payloads = c.args.payloads.now in
    let index = c.loop-payload.payload-index in
    let payload = c.payload-item.result in
    let room = c.args.room.now in
    let now = c.loop-payload.room in
    let filled = c.loop-payload.filled in
    let within : index < length payloads = search rules in
    let one = one_more_payload payloads index payload within c.payload-item.is in
    let more : length (all_payloads (take (index + 1) payloads)) ≡ length (all_payloads (take index payloads)) + length payload =
    ap length one ∙ length-append (all_payloads (take index payloads)) payload in
    record {
      count = omega (arith, more, c.loop-payload.invariant.count, c.len-filled.ensures);
      written =
          ap (put_mid filled (length now - filled) now)
          (c.copy_in_front.ensures ∙ ap (λ bytes. in_front bytes (take (length now - filled) (drop filled now))) c.as_slice.ensures)
          ∙ fill_more (all_payloads (take index payloads)) payload room now filled (sym c.loop-payload.invariant.count)
          c.loop-payload.invariant.written
          ∙ ap (λ bytes. in_front bytes room) (sym one);
    }
