use Rattle.std.proofs.Common.{arith}
use Rattle.lgm_world.proofs.Worlds.{ordered_opening}
use Rattle.lgm_world.proofs.world.World.new.Goals as goal

pub invariant_of-result : goal.invariant_of-result
invariant_of-result c =
    (rw (c.new.ensures.items, c.loop-eye.invariant) (ordered_opening c.in_ok-copy.field-0 c.loop-eye._eye), rw c.new.ensures.items (omega arith))
