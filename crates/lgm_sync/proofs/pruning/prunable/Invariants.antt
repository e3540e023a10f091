use Rattle.std.proofs.Common.{◌≡◌, ◌++◌}
use Rattle.lgm_sync.specs.Pruning.{prunable_in, prunable_of}
use Rattle.lgm_sync.proofs.pruning.prunable.Given as goal

-- those that were found, and those among the channels to come
abbrev pub invariant-loop-stored : goal.invariant-loop-stored
invariant-loop-stored l =
    l.found.items ++ prunable_in l.fn.before l.fn.block l.stored-iterator ≡ prunable_of l.fn.map l.fn.before l.fn.block
