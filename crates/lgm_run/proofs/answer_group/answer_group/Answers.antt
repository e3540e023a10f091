use Rattle.std.proofs.Common.{◌≡◌, subst}
use Rattle.std.specs.Prelude.{OnOk}
use Rattle.std.specs.List.{AllByRecursion}
use Rattle.lgm_script.specs.Groups.{IsOfKind}
use Rattle.lgm_script.specs.Output.{told_by, Writes}
use Rattle.lgm_run.proofs.AlikeRequestLaws.{questions_leave, questions_are_told, is_alone, other_leaves, other_is_told}
use Rattle.lgm_run.proofs.answer_group.answer_group.Goals as goal

pub returns-in-Question-clause-state : goal.returns-in-Question-clause-state
returns-in-Question-clause-state g c =
    let asked = c.args.group.now.lines.items in
    let kind = subst (λ own. AllByRecursion (IsOfKind own) asked) c.in-Question.is c.requires.alike.each in
    subst (λ s. OnOk c.answer_questions.result (c.answer_questions.new.self ≡ s))
    (questions_leave c.args.context.now.chain c.args.engine.now asked kind)
    (rw c.as_slice-lines.ensures.value at c.answer_questions.ensures.state)

pub returns-in-Question-clause-written : goal.returns-in-Question-clause-written
returns-in-Question-clause-written g c =
    let asked = c.args.group.now.lines.items in
    let kind = subst (λ own. AllByRecursion (IsOfKind own) asked) c.in-Question.is c.requires.alike.each in
    subst (λ t. Writes (told_by g.W.Sink.seen c.args.output.now) (told_by g.W.Sink.seen c.answer_questions.new.output) t
    c.answer_questions.result)
    (questions_are_told c.args.context.now.chain c.args.first c.args.engine.now asked kind)
    (rw c.as_slice-lines.ensures.value at c.answer_questions.ensures.written)

pub returns-in-Other-clause-state : goal.returns-in-Other-clause-state
returns-in-Other-clause-state g c =
    other_leaves c.args.context.now.chain c.args.first c.args.engine.now
    (is_alone c.requires.alike c.in-Other.is c.as_slice-lines.ensures.value c.index-lines-0.is) c.answer_alone.result
    c.answer_alone.new.engine c.answer_alone.ensures.state

pub returns-in-Other-clause-written : goal.returns-in-Other-clause-written
returns-in-Other-clause-written g c =
    other_is_told c.args.context.now.chain c.args.first c.args.engine.now
    (is_alone c.requires.alike c.in-Other.is c.as_slice-lines.ensures.value c.index-lines-0.is)
    (λ text. Writes (told_by g.W.Sink.seen c.args.output.now) (told_by g.W.Sink.seen c.answer_alone.new.output) text c.answer_alone.result)
    c.answer_alone.ensures.written
