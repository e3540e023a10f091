use Rattle.std.proofs.Common.{◌≡◌, take}
use Rattle.lgm_payer.specs.Searches.{room_out}
use Rattle.lgm_payer.proofs.overlays.room_out.Given as goal

-- what the first ones carry together
abbrev pub invariant-loop-edge : goal.invariant-loop-edge
invariant-loop-edge l = l.room ≡ room_out l.payer (take l.edge-index l.extra)
