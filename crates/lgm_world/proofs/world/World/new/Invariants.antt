use Rattle.std.proofs.Common.{◌≡◌, replicate}
use Rattle.lgm_world.specs.World.{marks}
use Rattle.lgm_world.proofs.world.World.new.Given as goal

abbrev pub invariant-loop-eye : goal.invariant-loop-eye
invariant-loop-eye l = l.marks.items ≡ replicate l._eye (marks 0 0)
