use Rattle.std.proofs.Common.{◌+◌, ◌-◌, ◌^◌, ◌<◌, ◌≤◌, ℕ, length, min}
use Rattle.lgm_route.specs.inner.Searching.{edge_at}
use Rattle.lgm_route.specs.inner.SearchState.{Adds, Extends, IsRelaxedOn}
use Rattle.lgm_route.proofs.SpentSearches.{looked}
use Rattle.lgm_route.proofs.label_search.LabelSearch.relax.Given as goal

abbrev pub invariant-loop-at : goal.invariant-loop-at
invariant-loop-at g l = record {
  extends : Extends l.fn.self l.self;
  passed : (j : ℕ) → j < l.at → IsRelaxedOn l.fn.self l.i (edge_at l.edges j) l.self;
  adds : Adds l.fn.self l.self;
  spends : length l.self.labels < 2 ^ 32 → l.self.spent ≤ l.fn.self.spent + length l.edges + looked l.self.labels l.edges l.at;
  counted : min (l.fn.self.spent + length l.edges) (2 ^ 64 - 1) ≤ l.self.spent;
}
