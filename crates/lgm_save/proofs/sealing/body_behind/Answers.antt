use Rattle.std.proofs.Common.{ap, sym, ◌∙◌, ◌++◌, refl}
use Rattle.lgm_save.specs.Saved.{sealed}
use Rattle.lgm_save.proofs.SavedLaws.{sealed_same}
use Rattle.lgm_save.proofs.LoadLaws.{if_some_to}
use Rattle.lgm_save.proofs.sealing.body_behind.Goals as goal

pub returns-clause-some : goal.returns-clause-some
returns-clause-some c =
    if_some_to c.strip.result (λ body is. c.in_ok-content.ensures.some ∙ ap sealed is) c.strip.ensures.some

pub returns-clause-none : goal.returns-clause-none
returns-clause-none c none body e =
    c.strip.ensures.none none body (sealed_same c.in_ok-content.content.now (c.args.opening.now ++ body) (sym c.in_ok-content.ensures.some ∙ e))
