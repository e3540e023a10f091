use Rattle.std.proofs.Common.{◌≡◌, [], take}
use Rattle.lgm_store.specs.inner.ScidSet.{collected}
use Rattle.lgm_store.proofs.scid_set.sorted.Given as goal

-- the set of the ids so far
abbrev pub invariant-loop-scid : goal.invariant-loop-scid
invariant-loop-scid l = l.set.keys ≡ collected [] (take l.scid-index l.scids)
