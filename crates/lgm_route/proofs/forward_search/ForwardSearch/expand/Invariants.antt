use Rattle.lgm_route.specs.inner.ForwardState.{IsSameForwardState}
use Rattle.lgm_route.proofs.forward_search.ForwardSearch.expand.Given as goal

abbrev pub invariant-loop-step : goal.invariant-loop-step
invariant-loop-step g l = IsSameForwardState l.fn.self l.self
