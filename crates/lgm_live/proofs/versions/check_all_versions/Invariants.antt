use Rattle.std.proofs.Common.{◌≡◌}
use Rattle.std.specs.List.{AllZip}
use Rattle.lgm_live.specs.inner.WorkerResult.{IsTied}
use Rattle.lgm_live.proofs.versions.check_all_versions.Given as goal

abbrev pub invariant-loop-worked : goal.invariant-loop-worked
invariant-loop-worked l = record {
  same : l.pen ≡ l.fn.pen;
  tied : AllZip (IsTied l.fn.pen.published l.ends) l.yielded l.answers.items;
}
