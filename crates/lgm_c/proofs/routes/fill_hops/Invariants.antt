use Rattle.std.proofs.Common.{◌≡◌}
use Rattle.lgm_c.specs.Writing.{in_front}
use Rattle.lgm_c.proofs.Hops.{first_hops}
use Rattle.lgm_c.proofs.routes.fill_hops.Given as goal

-- the first hops were written
abbrev pub invariant-loop-place : goal.invariant-loop-place
invariant-loop-place l = l.room ≡ in_front (first_hops l.hops l.payloads l.place) l.initial.room
