use Rattle.std.proofs.Common.{◌-◌}
use Rattle.lgm_route.specs.inner.SearchState.{Extends}
use Rattle.lgm_route.proofs.label_search.LabelSearch.settle_early.Given as goal

abbrev pub invariant-loop-settled : goal.invariant-loop-settled
invariant-loop-settled g l = Extends l.fn.self l.self

abbrev pub decreases-loop-settled : goal.decreases-loop-settled
decreases-loop-settled g l = 64 - l.settled
