use Rattle.std.proofs.Common.{◌≡◌, take}
use Rattle.std.specs.Prelude.{map}
use Rattle.lgm_c.specs.Attempts.{limit_given}
use Rattle.lgm_c.proofs.overlay.with_limits.Given as goal

-- the first limits were added
abbrev pub invariant-loop-limit : goal.invariant-loop-limit
invariant-loop-limit l =
    l.limited ≡ record l.fn.overlay { limits = map limit_given (take l.limit-index l.limits) }
