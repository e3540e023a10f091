use Rattle.std.proofs.Common.{◌≡◌, ◌+◌, ◌++◌, length}
use Rattle.lgm_query.specs.Backlog.{passing_rows}
use Rattle.lgm_query.proofs.backlog_iter.BacklogIterator.next.Given as goal

-- the list of those still to come is unchanged
abbrev pub invariant-rows : goal.invariant-rows
invariant-rows l = l.self-inside.passing ++ passing_rows l.self-inside.filter l.self-inside.channels l.self-inside.nodes ≡ l.fn.self

abbrev pub decreases-rows : goal.decreases-rows
decreases-rows l = length l.self-inside.channels + length l.self-inside.nodes
