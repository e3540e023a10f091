use Rattle.std.proofs.Common.{◌≤◌}
use Rattle.lgm_route.specs.inner.Searching.{number_at}
use Rattle.lgm_route.specs.inner.ForwardState.{IsSameForwardState}
use Rattle.lgm_route.proofs.ForwardStates.{AreNearTo}
use Rattle.lgm_route.proofs.forward_search.ForwardSearch.spread.Given as goal

abbrev pub invariant-loop-edge : goal.invariant-loop-edge
invariant-loop-edge g l = record {
  same : IsSameForwardState l.fn.self l.self;
  start : l.start ≤ number_at l.self.dist l.node;
  near : AreNearTo l.fn.self l.self l.start l.edge-items l.edge-index;
}
