use Rattle.std.proofs.Common.{◌≡◌, [], take}
use Rattle.lgm_c.specs.Attempts.{overlay_given}
use Rattle.lgm_c.proofs.overlay.overlay_of_edges.Given as goal

-- the first edges were added
abbrev pub invariant-loop-edge : goal.invariant-loop-edge
invariant-loop-edge l = l.overlay ≡ overlay_given (take l.edge-index l.edges) [] []
