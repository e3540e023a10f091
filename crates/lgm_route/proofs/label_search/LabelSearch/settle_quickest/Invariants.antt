use Rattle.lgm_route.specs.inner.SearchState.{Extends, IsPaid}
use Rattle.lgm_route.proofs.label_search.LabelSearch.settle_quickest.Given as goal

abbrev pub invariant-loop-turn : goal.invariant-loop-turn
invariant-loop-turn g l = record {
  extends : Extends l.fn.self l.self;
  pays : IsPaid l.fn.self → IsPaid l.self;
}
