-- What closing one channel after the other does to the newest map.
use Rattle.std.specs.Prelude.{List, [], ◌∷◌}
use Rattle.lgm_store.specs.declared.op.Op.TheVariants as ops
use Rattle.lgm_timeline.specs.History.{Moment, behind}
use Rattle.lgm_sync.specs.declared.pruning.StaleChannel.{StaleChannel}

-- after the closes of these channels, in their order
abbrev pub behind_each : Moment → List StaleChannel → Moment
behind_each now [] = now
behind_each now (stale ∷ others) = behind_each (behind now (ops.Close stale.scid)) others
