use Rattle.lgm_route.specs.inner.SearchState.{Extends}
use Rattle.lgm_route.proofs.label_search.LabelSearch.settle_in_turn.Given as goal

abbrev pub invariant-loop-i : goal.invariant-loop-i
invariant-loop-i g l = Extends l.fn.self l.self
