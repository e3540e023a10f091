use Rattle.std.proofs.Common.{◌≡◌, ◌++◌, take}
use Rattle.std.specs.Prelude.{map}
use Rattle.lgm_graph.specs.Overlay.{extra_edge}
use Rattle.lgm_payer.proofs.overlays.overlay_edges.Given as goal

-- the first ones were added
abbrev pub invariant-loop-edge : goal.invariant-loop-edge
invariant-loop-edge l = l.overlay ≡ record l.initial.overlay { extra = l.initial.overlay.extra ++ map extra_edge (take l.edge-index l.edges) }
