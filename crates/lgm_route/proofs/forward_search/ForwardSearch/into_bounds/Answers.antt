use Rattle.std.proofs.Common.{ap}
use Rattle.lgm_route.specs.inner.ForwardState.{ForwardState}
use Rattle.lgm_route.proofs.ForwardStates.{low_of_pass}
use Rattle.lgm_route.proofs.forward_search.ForwardSearch.into_bounds.Goals as goal

pub returns-clause-low : goal.returns-clause-low
returns-clause-low g c =
    rw (c.new.ensures, ap (λ (p : ForwardState). p.dist) c.self.view_is)
    (low_of_pass c.args.self c.radius-radius.result c.radius-radius.ensures.pass c.radius-radius.ensures.radius)
