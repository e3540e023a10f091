use Rattle.std.proofs.Common.{◌<◌, ℕ}
use Rattle.lgm_route.specs.inner.SearchState.{Extends, IsPaid, IsMarkedAt}
use Rattle.lgm_route.proofs.label_search.LabelSearch.sweep.Given as goal

abbrev pub invariant-loop-i : goal.invariant-loop-i
invariant-loop-i g l = record {
  extends : Extends l.fn.self l.self;
  pays : IsPaid l.fn.self → IsPaid l.self;
  marked : (j : ℕ) → j < l.i → IsMarkedAt l.self j;
}
