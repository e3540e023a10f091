use Rattle.std.proofs.Common.{refl, rules, subst, List}
use Rattle.std.specs.Prelude.{All, IsTrue}
use Rattle.lgm_store.specs.declared.op.Op.{Op}
use Rattle.lgm_board.specs.Lists.{IsLonger}
use Rattle.lgm_live.specs.Answers.{IsAtEnd}
use Rattle.lgm_live.proofs.Answers.{answers_published}
use Rattle.lgm_live.proofs.versions.check_versions.Goals as goal

pub returns-clause-tied : goal.returns-clause-tied
returns-clause-tied c =
    let worked = c.args.worked in
    let ends = c.args.ends.now in
    let published = c.args.pen.now.published in
    let are : IsTrue c.are_at_ends.result = search rules in
    let at_ends = subst (All (IsAtEnd ends)) c.as_slice.ensures.value (c.are_at_ends.ensures are) in
    let longest = subst (λ (told : List Op). IsLonger c.learn.new.self.ops worked.eye.ops told) c.tell.ensures.told c.learn.ensures.seen in
    record {
      same = refl;
      at_ends = at_ends;
      answered =
          λ known requests all. answers_published known c.learn.new.self.ops worked.eye.ops published ends
          requests worked.answers.items longest c.requires.within at_ends all;
    }
