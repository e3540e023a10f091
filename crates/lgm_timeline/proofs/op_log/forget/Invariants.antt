use Rattle.std.proofs.Common.{◌≡◌, drop}
use Rattle.lgm_timeline.proofs.op_log.forget.Given as goal

-- so many operations are gone
abbrev pub invariant-loop-place : goal.invariant-loop-place
invariant-loop-place l = l.ops.items ≡ drop l.place l.initial.ops.items
