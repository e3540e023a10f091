use Rattle.std.proofs.Common.{ap, drop, ◌∙◌}
use Rattle.std.proofs.lemmas.List.{drop-drop}
use Rattle.lgm_timeline.proofs.op_log.forget.Goals as goal

pub loop-place-preserved : goal.loop-place-preserved
loop-place-preserved c =
    c.pop_front.ensures.rest ∙ ap (drop 1) c.loop-place.invariant ∙ drop-drop 1 c.loop-place.place c.args.ops.now.items
