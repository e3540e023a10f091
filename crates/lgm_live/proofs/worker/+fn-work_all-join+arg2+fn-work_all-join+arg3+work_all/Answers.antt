use Rattle.std.proofs.Common.{rules, subst, ap₂, ◌∙◌, List, ◌++◌, IfOk}
use Rattle.std.specs.Global.{Vec}
use Rattle.std.specs.Prelude.{Result}
use Rattle.std.proofs.lemmas.List.{take-append-drop}
use Rattle.lgm_board.specs.Handles.{Sight}
use Rattle.lgm_live.specs.declared.fault.LiveFault.{LiveFault}
use Rattle.lgm_live.specs.declared.worker.WorkerResult.{WorkerResult}
use Rattle.lgm_live.specs.inner.WorkerResult.{HaveWorked}
use Rattle.lgm_live.proofs.Answers.{parts_worked}
use Rattle.lgm_live.proofs.worker.+fn-work_all-join+arg2+fn-work_all-join+arg3+work_all.Goals as goal

pub returns : goal.returns
returns g t c =
    let near = c.split_at.result.0.now in
    let far = c.split_at.result.1.now in
    let first : IfOk c.join-done.result.0 (λ (works : Vec WorkerResult). HaveWorked c.split_off.new.self.items near works.items) = search rules in
    let second : IfOk c.join-done.result.1 (λ (works : Vec WorkerResult). HaveWorked c.in_ok-rest.rest.items far works.items) = search rules in
    let done =
    subst (λ (r : Result (Vec WorkerResult) LiveFault).
    IfOk r (λ works. HaveWorked c.split_off.new.self.items near works.items)) c.in_ok-works.was first in
    let others =
    subst (λ (r : Result (Vec WorkerResult) LiveFault).
    IfOk r (λ works. HaveWorked c.in_ok-rest.rest.items far works.items)) c.in_ok-others.was second in
    rw c.in_ok-append.ensures.items
    (parts_worked c.args.eyes.items _ c.args.lists.now near far c.in_ok-works.works.items c.in_ok-others.field-0.items
    (ap₂ ◌++◌ c.split_at.ensures.front c.split_at.ensures.back ∙ take-append-drop _ c.args.lists.now)
    (subst (λ (eyes : List Sight). HaveWorked eyes near c.in_ok-works.works.items) c.in_ok-rest.ensures.items done)
    (subst (λ (eyes : List Sight). HaveWorked eyes far c.in_ok-others.field-0.items) c.in_ok-rest.ensures.tail others))
