use Rattle.std.proofs.Common.{◌-◌, take}
use Rattle.lgm_query.specs.Touched.{HasTouched}
use Rattle.lgm_timeline.specs.History.{since}
use Rattle.lgm_timeline.proofs.op_log.OpLog.touched_since.Given as goal

-- what the operations up to a position touch
abbrev pub invariant-loop-place : goal.invariant-loop-place
invariant-loop-place l = HasTouched (take (l.place - l.position) (since l.self l.position)) l.keys
