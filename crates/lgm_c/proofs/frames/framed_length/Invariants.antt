use Rattle.std.proofs.Common.{◌≡◌, ◌+◌, length}
use Rattle.lgm_c.specs.Writing.{all_framed}
use Rattle.lgm_c.proofs.frames.framed_length.Given as goal

-- the bytes of what was counted and of what is still to come make those of the whole
abbrev pub invariant-loop-message : goal.invariant-loop-message
invariant-loop-message l = l.sum + length (all_framed l.message-iterator) ≡ length (all_framed l.fn.messages)
