use Rattle.std.proofs.Common.{◌≡◌, ◌<◌, ◌+◌, ◌-◌, ◌++◌, ◌∷◌, [], take, length, get_or, sym, ap, ◌∙◌, arith}
use Rattle.std.proofs.lemmas.List.{take_more, length-drop, get_or-drop}
use Rattle.lgm_timeline.specs.History.{since}
use Rattle.lgm_timeline.proofs.op_log.OpLog.touched_since.Goals as goal

pub loop-place-preserved : goal.loop-place-preserved
loop-place-preserved c =
    let log = c.args.self.now in
    let n = c.args.position - log.base in
    let i = c.loop-place.place - c.args.position in
    let items = since log c.args.position in
    let op = c.op.result.now in
    let within : i < length items = omega (arith, length-drop n log.ops) in
    let place : n + i ≡ c.loop-place.place - log.base = omega arith in
    let count : (c.loop-place.place + 1) - c.args.position ≡ i + 1 = omega arith in
    let read : op ≡ get_or items i op =
    c.op.ensures ∙ ap (λ k. get_or log.ops k op) (sym place) ∙ sym (get_or-drop n log.ops i op) in
    let more : take ((c.loop-place.place + 1) - c.args.position) items ≡ take i items ++ op ∷ [] =
    ap (λ k. take k items) count ∙ take_more items i op within ∙ ap (λ x. take i items ++ x ∷ []) (sym read) in
    rw more (c.in_ok-touch.ensures.ok (take i items) c.loop-place.invariant)
