use Rattle.std.proofs.Common.{◌≡◌, ◌≤◌, ◌+◌, ◌-◌, ℕ, length, get_or}
use Rattle.lgm_route.proofs.pareto_fronts.pad.Given as goal

abbrev pub invariant-loop-numbers : goal.invariant-loop-numbers
invariant-loop-numbers l = record {
  long : length l.fn.numbers.items ≤ length l.numbers.items;
  same : (i : ℕ) → get_or l.numbers.items i l.number ≡ get_or l.fn.numbers.items i l.number;
}

abbrev pub decreases-loop-numbers : goal.decreases-loop-numbers
decreases-loop-numbers l = l.place + 1 - length l.numbers.items
