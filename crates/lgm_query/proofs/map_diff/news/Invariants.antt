use Rattle.std.proofs.Common.{◌≡◌, ◌++◌}
use Rattle.lgm_query.specs.Backlog.{news}
use Rattle.lgm_query.proofs.map_diff.news.Given as goal

-- what was collected and what is still to come make the whole
abbrev pub invariant-loop-message : goal.invariant-loop-message
invariant-loop-message l = l.messages.items ++ l.message-iterator ≡ news l.before l.after l.filter
