use Rattle.std.proofs.Common.{◌≡◌, ◌-◌, ◌^◌, take}
use Rattle.std.specs.Prelude.{min, sum_by}
use Rattle.lgm_odds.specs.Room.{extra_into}
use Rattle.lgm_odds.proofs.room.all_extra_into.Given as goal

-- what the first ones carry together
abbrev pub invariant-loop-edge : goal.invariant-loop-edge
invariant-loop-edge l = l.room ≡ min (2 ^ 64 - 1) (sum_by (extra_into l.node) (take l.edge-index l.extra))
