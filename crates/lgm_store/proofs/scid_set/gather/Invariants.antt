use Rattle.std.proofs.Common.{◌≡◌, ◌++◌}
use Rattle.lgm_store.proofs.scid_set.gather.Given as goal

-- the ids so far, and those that are left
abbrev pub invariant-loop-scid : goal.invariant-loop-scid
invariant-loop-scid l = l.scids.items ++ l.scid-iterator ≡ l.initial.scids.items ++ l.own.keys
