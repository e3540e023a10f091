use Rattle.std.proofs.Common.{length}
use Rattle.lgm_save.specs.inner.Partly.{IsPartly}
use Rattle.lgm_save.proofs.loading.load.Given as goal

abbrev pub invariant-records : goal.invariant-records
invariant-records l = IsPartly l.initial.rest l.map l.rest

abbrev pub decreases-records : goal.decreases-records
decreases-records l = length l.rest
