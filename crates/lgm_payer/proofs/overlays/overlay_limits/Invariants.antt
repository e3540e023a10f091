use Rattle.std.proofs.Common.{◌≡◌, ◌++◌, take}
use Rattle.lgm_payer.proofs.overlays.overlay_limits.Given as goal

-- the first ones were added
abbrev pub invariant-loop-limit : goal.invariant-loop-limit
invariant-loop-limit l = l.overlay ≡ record l.initial.overlay { limits = l.initial.overlay.limits ++ take l.limit-index l.limits }
