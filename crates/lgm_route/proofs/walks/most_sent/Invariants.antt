use Rattle.std.proofs.Common.{◌≤◌, ◌<◌, ◌^◌, ℕ}
use Rattle.lgm_route.specs.inner.Searching.{edge_at}
use Rattle.lgm_route.proofs.walks.most_sent.Given as goal

abbrev pub invariant-loop-edge : goal.invariant-loop-edge
invariant-loop-edge g l = record {
  low : l.most ≤ 2 ^ 64;
  above : (j : ℕ) → j < l.edge-index → (edge_at l.edge-items j).max < l.most;
}
