use Rattle.std.proofs.Common.{◌+◌, ◌-◌, ◌^◌, ◌<◌, ◌≤◌, ℕ, List, length}
use Rattle.lgm_graph.specs.declared.edge.Edge.{Edge}
use Rattle.lgm_route.specs.inner.Numbered.{Ask}
use Rattle.lgm_route.specs.inner.Searching.{IsLabel}
use Rattle.lgm_route.specs.inner.Fronts.{IsCovered, IsCoveredAt, AreFalling}
use Rattle.lgm_route.specs.inner.Spending.{labels_of, first_labels_of}
use Rattle.lgm_route.proofs.pareto_fronts.ParetoFronts.find_dominator.Given as goal

abbrev pub invariant-loop-step : goal.invariant-loop-step
invariant-loop-step g l = record {
  covered : (request : Ask) (rest : List Edge) → IsLabel (g.V.RoutingGraph.graph l.view) request l.labels l.label rest
      → IsCoveredAt (g.V.RoutingGraph.graph l.view) request l.labels l.self l.label.node rest
      → IsCovered (g.V.RoutingGraph.graph l.view) request l.labels l.self.following l.label.node (length l.labels - l.step) l.place rest;
  few : AreFalling l.self (length l.labels) → length l.labels < 2 ^ 32 → l.step ≤ labels_of l.labels l.label.node;
  fewer : AreFalling l.self (length l.labels) → length l.labels < 2 ^ 32 → l.place < length l.labels
      → l.step + first_labels_of l.labels l.label.node (l.place + 1) ≤ labels_of l.labels l.label.node;
}
