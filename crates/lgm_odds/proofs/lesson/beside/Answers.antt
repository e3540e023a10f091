use Rattle.std.proofs.Common.{◌∙◌, ap}
use Rattle.std.specs.Prelude.{fold}
use Rattle.std.proofs.Math.Path.{fun_ext}
use Rattle.std.proofs.lemmas.List.{take_all}
use Rattle.lgm_wire.specs.declared.point.Point.{Point}
use Rattle.lgm_graph.specs.Estimates.{estimate_of}
use Rattle.lgm_odds.specs.Lessons.{lowered_by}
use Rattle.lgm_odds.proofs.LessonLaws.{lowered_all}
use Rattle.lgm_odds.proofs.lesson.beside.Goals as goal

pub returns : goal.returns
returns c = fun_ext (λ scid. fun_ext (λ (from : Point).
    let before = c.loop-hop.invariant scid from in
    let all = lowered_all c.args.busy.now scid from (estimate_of c.args.learnt.now scid from) in
    before ∙ ap (λ hops. fold (lowered_by scid from) (estimate_of c.args.learnt.now scid from) hops)
    (take_all c.loop-hop.hop-index c.args.busy.now c.loop-hop-test.false) ∙ all))
