use Rattle.std.proofs.Common.{◌≡◌, ◌++◌, take}
use Rattle.lgm_payer.proofs.overlays.overlay_silent.Given as goal

-- the first ones were added
abbrev pub invariant-loop-node : goal.invariant-loop-node
invariant-loop-node l = l.overlay ≡ record l.initial.overlay { silent = l.initial.overlay.silent ++ take l.node-index l.silent }
