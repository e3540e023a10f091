use Rattle.std.proofs.Common.{◌≡◌, ◌++◌, take}
use Rattle.lgm_payer.specs.Overlays.{limits_left}
use Rattle.lgm_payer.proofs.overlays.limit_by_failures.Given as goal

-- what the first ones give was added
abbrev pub invariant-loop-part : goal.invariant-loop-part
invariant-loop-part l = l.limits.items ≡ l.initial.limits.items ++ limits_left l.payer l.hints (take l.part-index l.parts)
