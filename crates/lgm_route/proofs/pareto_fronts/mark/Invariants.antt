use Rattle.std.proofs.Common.{◌≡◌, ◌+◌, ◌-◌, ℕ, false, length, get_or}
use Rattle.lgm_route.proofs.pareto_fronts.mark.Given as goal

abbrev pub invariant-loop-done : goal.invariant-loop-done
invariant-loop-done l = (j : ℕ) → get_or l.done.items j false ≡ get_or l.fn.done.items j false

abbrev pub decreases-loop-done : goal.decreases-loop-done
decreases-loop-done l = l.i + 1 - length l.done.items
