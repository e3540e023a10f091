use Rattle.std.proofs.Common.{◌∙◌, ap}
use Rattle.std.specs.List.{list_any}
use Rattle.lgm_c.specs.Attempts.{AttemptParts, lacks_maximum}
use Rattle.lgm_c.proofs.Maxima.{maxima}
use Rattle.lgm_c.proofs.attempt.Attempt.lacks_maximum.Goals as goal

pub returns : goal.returns
returns c =
    c.any_carries_nothing.ensures ∙ maxima c.self.inside.edges.now
    ∙ ap (λ (attempt : AttemptParts). list_any lacks_maximum attempt.overlay.extra) c.self.view_is
