use Rattle.std.proofs.Common.{◌≡◌, ◌++◌}
use Rattle.lgm_c.specs.Writing.{all_framed}
use Rattle.lgm_c.proofs.frames.frame_all.Given as goal

-- what was framed and what is still to come make the whole
abbrev pub invariant-loop-message : goal.invariant-loop-message
invariant-loop-message l = l.written.items ++ all_framed l.message-iterator ≡ all_framed l.fn.messages
