use Rattle.std.proofs.Common.{◌≡◌, ◌++◌, take}
use Rattle.lgm_payer.specs.Overlays.{capacity_limits_over}
use Rattle.lgm_payer.proofs.overlays.limit_by_capacity.Given as goal

-- what the first ones give was added
abbrev pub invariant-loop-hop : goal.invariant-loop-hop
invariant-loop-hop l = l.limits.items ≡ l.initial.limits.items ++ capacity_limits_over l.map l.payer l.busy (take l.hop-index l.busy)
