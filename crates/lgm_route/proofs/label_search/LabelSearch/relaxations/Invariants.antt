use Rattle.lgm_route.specs.inner.SearchState.{bound_in}
use Rattle.lgm_route.proofs.RelaxationLaws.{AreLeadsTo}
use Rattle.lgm_route.proofs.label_search.LabelSearch.relaxations.Given as goal

abbrev pub invariant-loop-at : goal.invariant-loop-at
invariant-loop-at g l =
    AreLeadsTo l.self.ground.graph l.self.ground.request l.self.ground.low (bound_in l.self) l.self.labels l.i
    l.edges l.at l.relaxations.items
