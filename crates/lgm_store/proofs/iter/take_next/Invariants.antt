use Rattle.std.proofs.Common.{◌≡◌, ◌++◌, length}
use Rattle.lgm_store.proofs.iter.take_next.Given as goal

-- nothing is lost
abbrev pub invariant-loop-numbers : goal.invariant-loop-numbers
invariant-loop-numbers l = l.fn.numbers ≡ l.ahead.items ++ l.numbers

abbrev pub decreases-loop-numbers : goal.decreases-loop-numbers
decreases-loop-numbers l = length l.numbers
