use Rattle.std.proofs.Common.{◌∙◌, ap}
use Rattle.lgm_graph.specs.declared.estimate.Estimate.{Estimate}
use Rattle.lgm_odds.specs.Lessons.{taught}
use Rattle.lgm_odds.proofs.LessonLaws.{taught_set}
use Rattle.lgm_odds.proofs.lesson.Lesson.teach.Goals as goal

pub returns-in_ok-set-clause-taught : goal.returns-in_ok-set-clause-taught
returns-in_ok-set-clause-taught c =
    taught_set c.args.self c.args.hop.now c.args.amount c.args.estimates.now c.set.new.self c.taught-taught.result
    (c.taught-taught.ensures ∙ ap (λ (e : Estimate). taught c.args.self c.args.amount e) c.get-known.ensures)
    c.in_ok-set.ensures.set
