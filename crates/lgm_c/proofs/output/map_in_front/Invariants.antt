use Rattle.std.proofs.Common.{◌≡◌, take}
use Rattle.std.specs.Prelude.{map}
use Rattle.std.specs.Fn.{FnReturnsAt}
use Rattle.lgm_c.specs.Writing.{in_front}
use Rattle.lgm_c.proofs.output.map_in_front.Given as goal

-- what the first items give was written
abbrev pub invariant-loop-place : goal.invariant-loop-place
invariant-loop-place g l =
    (f : g.row.T.Denot → g.row.U.Denot) → ((x : g.row.T.Denot) (y : g.row.U.Denot) → FnReturnsAt g.F.Fn l.fn.give x y → y ≡ f x)
    → l.room ≡ in_front (map f (take l.place l.items)) l.initial.room
