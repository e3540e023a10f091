use Rattle.std.proofs.Common.{◌∙◌, subst}
use Rattle.std.proofs.lemmas.Slice.Zip.{all_zipped_more}
use Rattle.lgm_board.specs.Handles.{Writing}
use Rattle.lgm_live.specs.inner.WorkerResult.{IsTied}
use Rattle.lgm_live.proofs.versions.check_all_versions.Goals as goal

pub loop-worked-preserved : goal.loop-worked-preserved
loop-worked-preserved c =
    let before = c.loop-worked.invariant in
    let published = c.args.pen.now.published in
    let ends = c.args.ends.now in
    let tied = subst (λ (pen : Writing). IsTied pen.published ends c.in-Some.worked c.in_ok-check_versions.field-0) before.same c.in_ok-check_versions.ensures.tied in
    record {
      same = c.check_versions.ensures.same ∙ before.same;
      tied =
          rw c.in_ok-push.ensures.items (all_zipped_more (IsTied published ends) c.loop-worked.yielded
          c.loop-worked.answers.items c.in-Some.worked c.in_ok-check_versions.field-0 before.tied tied);
    }
