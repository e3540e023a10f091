use Rattle.std.proofs.Common.{◌≡◌, ◌-◌, ◌^◌, take}
use Rattle.std.specs.Prelude.{min, sum_by}
use Rattle.lgm_graph.specs.Estimates.{estimate_of}
use Rattle.lgm_odds.specs.Room.{room_by}
use Rattle.lgm_odds.proofs.room.all_room_by.Given as goal

-- what the first ones carry together
abbrev pub invariant-loop-id : goal.invariant-loop-id
invariant-loop-id l =
    l.room ≡ min (2 ^ 64 - 1) (sum_by (room_by l.map l.limits (estimate_of l.estimates) l.node) (take l.id-index l.ids))
