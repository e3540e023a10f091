use Rattle.std.proofs.Common.{◌<◌, ℕ}
use Rattle.lgm_route.specs.inner.Searching.{label_at, first_of}
use Rattle.lgm_route.specs.inner.SearchState.{Extends, IsRelaxedOn}
use Rattle.lgm_route.proofs.label_search.LabelSearch.merge.Given as goal

abbrev pub invariant-loop-new : goal.invariant-loop-new
invariant-loop-new g l = record {
  extends : Extends l.fn.self l.self;
  taken : (k : ℕ) → k < l.new-index → IsRelaxedOn l.fn.self l.i (first_of l.fn.self.ground.graph l.fn.self.labels (label_at l.relaxations k)) l.self;
}
