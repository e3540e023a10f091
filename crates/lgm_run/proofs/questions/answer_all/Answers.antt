use Rattle.std.proofs.Common.{rules}
use Rattle.std.specs.Prelude.{IfOk}
use Rattle.lgm_par.proofs.PlacewiseLaws.{zip_weaker_ok}
use Rattle.lgm_run.specs.inner.Questions.{IsAnswerTo}
use Rattle.lgm_run.proofs.questions.answer_all.Goals as goal

pub returns : goal.returns
returns g c =
    zip_weaker_ok _
    (λ request answer. IfOk answer (IsAnswerTo c.args.context.now.chain c.args.committed.now.known c.args.committed.now.rows request))
    (λ x y h. search rules) c.args.lines.now c.map.result c.map.ensures
