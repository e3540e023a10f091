use Rattle.std.proofs.Common.{◌<◌, length}
use Rattle.lgm_route.specs.inner.SearchState.{Adds, Extends}
use Rattle.lgm_route.proofs.SpentDives.{IsDiving}
use Rattle.lgm_route.proofs.label_search.LabelSearch.dive.Given as goal

abbrev pub invariant-loop-step : goal.invariant-loop-step
invariant-loop-step g l = record {
  extends : Extends l.fn.self l.self;
  adds : Adds l.fn.self l.self;
  within : l.here < length l.self.labels;
  diving : IsDiving l.i l.here l.fn.self l.self;
}
