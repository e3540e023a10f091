use Rattle.lgm_route.specs.inner.SearchState.{Extends, IsPaid}
use Rattle.lgm_route.proofs.queue.Queue.fill.Given as goal

abbrev pub invariant-loop-i : goal.invariant-loop-i
invariant-loop-i g l = record {
  extends : Extends l.fn.search l.search;
  pays : IsPaid l.fn.search → IsPaid l.search;
}
