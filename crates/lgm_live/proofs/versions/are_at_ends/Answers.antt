use Rattle.std.proofs.Common.{rules, subst}
use Rattle.std.specs.Prelude.{All, IsTrue}
use Rattle.std.proofs.lemmas.List.{take_all}
use Rattle.std.proofs.lemmas.List.Elements.{All-more}
use Rattle.lgm_live.specs.Answers.{IsAtEnd}
use Rattle.lgm_live.proofs.versions.are_at_ends.Goals as goal

pub loop-answer-preserved : goal.loop-answer-preserved
loop-answer-preserved c =
    let answer = c.answer-item.result in
    let at_end : IsTrue c.is_at_end.result = search rules in
    All-more (IsAtEnd c.args.ends.now) c.args.answers.now c.loop-answer.answer-index answer c.loop-answer-test.true c.loop-answer.invariant
    (subst (IsAtEnd c.args.ends.now) c.answer-item.is (c.is_at_end.ensures at_end))

pub returns : goal.returns
returns c =
    λ t. subst (All (IsAtEnd c.args.ends.now))
    (take_all c.loop-answer.answer-index c.args.answers.now c.loop-answer-test.false) c.loop-answer.invariant
