use Rattle.std.proofs.Common.{◌≡◌, ◌≤◌, ◌∷◌, ◌++◌, [], length}
use Rattle.lgm_route.specs.inner.Searching.{label_at}
use Rattle.lgm_route.specs.inner.Fronts.{next_in, IsLinked}
use Rattle.lgm_route.proofs.pareto_fronts.link.Given as goal

abbrev pub invariant-loop-step : goal.invariant-loop-step
invariant-loop-step g l = record {
  linked : IsLinked (g.V.RoutingGraph.graph l.view) l.labels l.new l.start l.fn.following l.following;
  within : l.last ≤ length l.labels;
  at : (label_at (l.labels ++ l.new ∷ []) l.last).node ≡ l.new.node;
  next : next_in l.following l.last ≡ l.place;
}
