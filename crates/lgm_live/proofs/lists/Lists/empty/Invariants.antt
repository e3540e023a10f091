use Rattle.std.proofs.Common.{◌≡◌, [], replicate}
use Rattle.lgm_live.proofs.lists.Lists.empty.Given as goal

abbrev pub invariant-loop-list : goal.invariant-loop-list
invariant-loop-list g l = l.lists ≡ replicate l._list []
