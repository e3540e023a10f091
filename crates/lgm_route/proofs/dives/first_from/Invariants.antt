use Rattle.std.proofs.Common.{◌≤◌, length}
use Rattle.lgm_route.proofs.dives.first_from.Given as goal

abbrev pub invariant-loop-step : goal.invariant-loop-step
invariant-loop-step l = l.high ≤ length l.edges
