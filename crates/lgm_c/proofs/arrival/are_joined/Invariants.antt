use Rattle.std.proofs.Common.{drop}
use Rattle.std.specs.Prelude.{◌↔◌}
use Rattle.lgm_c.specs.Arrivals.{AreJoined}
use Rattle.lgm_c.proofs.arrival.are_joined.Given as goal

-- what is left decides
abbrev pub invariant-loop-place : goal.invariant-loop-place
invariant-loop-place l = AreJoined l.hops ↔ AreJoined (drop l.place l.hops)
