use Rattle.std.proofs.Common.{ap, sym, ◌∙◌, List, [], ◌∷◌, ◌++◌}
use Rattle.lgm_route.specs.declared.request.Request.{Request}
use Rattle.lgm_live.specs.declared.worker.WorkerResult.{WorkerResult}
use Rattle.lgm_live.proofs.Answers.{single, alone_worked}
use Rattle.lgm_live.proofs.worker.work_alone.Goals as goal

pub returns : goal.returns
returns g c =
    let lists = c.args.lists.now in
    let worked = c.in_ok-work.field-0 in
    let done = c.in_ok-work.ensures in
    let list =
    single lists c.index-lists-0.result c.requires.one
    ∙ ap (λ (requests : List Request). requests ∷ []) (sym (c.as_slice.ensures ∙ c.index-lists-0.is)) in
    let works = c.in_ok-push.ensures.items ∙ ap (λ (works : List WorkerResult). works ++ worked ∷ []) c.new-works.ensures.items in
    alone_worked c.args.eyes.items c.pop.new.self.items c.in-Some.eye lists c.as_slice.result.now
    c.push.new.self.items worked c.in-Some.ensures.items c.requires.same list works
    done.board done.answered done.rising
