use Rattle.std.proofs.Common.{◌≡◌, take}
use Rattle.lgm_timeline.specs.Timeline.{newest}
use Rattle.lgm_c.specs.inner.Closing.{behind_each}
use Rattle.lgm_c.proofs.pruning.close_each.Given as goal

-- the first channels were closed
abbrev pub invariant-loop-place : goal.invariant-loop-place
invariant-loop-place l = record {
  newest : newest l.timeline ≡ behind_each (newest l.initial.timeline) (take l.place l.stale);
  marked : l.timeline.marked ≡ l.initial.timeline.marked;
}
