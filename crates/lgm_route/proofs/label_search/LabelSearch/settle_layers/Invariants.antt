use Rattle.lgm_route.specs.inner.SearchState.{Extends}
use Rattle.lgm_route.proofs.label_search.LabelSearch.settle_layers.Given as goal

abbrev pub invariant-loop-layer : goal.invariant-loop-layer
invariant-loop-layer g l = Extends l.fn.self l.self
