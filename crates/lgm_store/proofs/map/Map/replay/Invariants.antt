use Rattle.std.proofs.Common.{◌≡◌, take}
use Rattle.lgm_store.specs.History.{fold}
use Rattle.lgm_store.proofs.map.Map.replay.Given as goal

-- the map is the fold of the operations so far
abbrev pub invariant-loop-op : goal.invariant-loop-op
invariant-loop-op l = l.map ≡ fold (take l.op-index l.history)
