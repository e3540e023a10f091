use Rattle.std.proofs.Common.{◌≡◌, take}
use Rattle.std.specs.Prelude.{map}
use Rattle.std.specs.Fn.{FnReturnsAt}
use Rattle.lgm_c.proofs.given.all_given.Given as goal

-- what the first items give was made
abbrev pub invariant-loop-item : goal.invariant-loop-item
invariant-loop-item g l =
    (f : g.row.T.Denot → g.row.U.Denot)
    → ((x : g.row.T.Denot) (y : g.row.U.Denot) → FnReturnsAt g.F.Fn l.fn.give x y → y ≡ f x)
    → l.made.items ≡ map f (take l.item-index l.items)
