use Rattle.std.proofs.Common.{◌≡◌, ◌+◌, length, take}
use Rattle.lgm_board.specs.declared.snapshot.TheConstants.{MAX_OPERATIONS}
use Rattle.lgm_live.specs.Batches.{items_of}
use Rattle.lgm_live.proofs.lists.Lists+Item.are_few.Given as goal

abbrev pub invariant-loop-batch : goal.invariant-loop-batch
invariant-loop-batch l = length (items_of (take l.batch-index l.self)) + l.room ≡ MAX_OPERATIONS
