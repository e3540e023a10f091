use Rattle.std.proofs.Common.{◌≡◌, ◌++◌, take}
use Rattle.std.specs.Prelude.{map}
use Rattle.lgm_payer.specs.Overlays.{spared}
use Rattle.lgm_payer.proofs.overlays.add_spared.Given as goal

-- what the first ones give was added
abbrev pub invariant-loop-edge : goal.invariant-loop-edge
invariant-loop-edge l = l.extra.items ≡ l.initial.extra.items ++ map (spared l.busy) (take l.edge-index l.edges)
