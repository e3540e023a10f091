use Rattle.std.proofs.Common.{◌≡◌, take}
use Rattle.std.specs.Prelude.{map}
use Rattle.lgm_c.specs.Attempts.{point_given}
use Rattle.lgm_c.proofs.overlay.with_silent.Given as goal

-- the first nodes were added
abbrev pub invariant-loop-node : goal.invariant-loop-node
invariant-loop-node l =
    l.silenced ≡ record l.fn.overlay { silent = map point_given (take l.node-index l.silent) }
