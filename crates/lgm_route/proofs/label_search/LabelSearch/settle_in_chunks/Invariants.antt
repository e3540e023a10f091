use Rattle.lgm_route.specs.inner.SearchState.{Extends}
use Rattle.lgm_route.proofs.label_search.LabelSearch.settle_in_chunks.Given as goal

abbrev pub invariant-loop-k : goal.invariant-loop-k
invariant-loop-k g l = Extends l.fn.self l.self
