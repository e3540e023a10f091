use Rattle.std.proofs.Common.{◌≡◌, Err, subst, rules}
use Rattle.lgm_check.specs.declared.refusal.Refusal.TheVariants as refusals
use Rattle.lgm_script.specs.Output.{told_by, Writes}
use Rattle.lgm_script.proofs.WrittenTextLaws.{tells_none}
use Rattle.lgm_run.proofs.ItemCheckLaws.{turn_of}
use Rattle.lgm_run.proofs.answer_group.answer_item.Given.{Over}
use Rattle.lgm_run.proofs.answer_group.answer_item.Goals as goal

pub returns-in-Ok-clause-state : goal.returns-in-Ok-clause-state
returns-in-Ok-clause-state g c =
    λ request is. let offer = c.offer.ensures in
    let turn =
    turn_of c.args.context.now.chain c.args.engine.now c.offer.new.self request c.in-Some.item c.offer.result (λ none. absurd cc)
    (rw c.in-Some.is at is) offer.outcome offer.state offer.same in
    search (rules, turn.0)

pub returns-in-Ok-clause-written : goal.returns-in-Ok-clause-written
returns-in-Ok-clause-written g c =
    λ request is. let offer = c.offer.ensures in
    let turn =
    turn_of c.args.context.now.chain c.args.engine.now c.offer.new.self request c.in-Some.item c.offer.result (λ none. absurd cc)
    (rw c.in-Some.is at is) offer.outcome offer.state offer.same in
    subst (λ t. Writes (told_by g.W.Sink.seen c.args.output.now) (told_by g.W.Sink.seen c.send-in-Ok.new.self) t c.send-in-Ok.result)
    (rw c.in-Ok.is at (turn.1 c.args.number)) (rw c.outcome_word.ensures at c.send-in-Ok.ensures)

pub returns-in-Err-NoMemory-clause-written : goal.returns-in-Err-NoMemory-clause-written
returns-in-Err-NoMemory-clause-written g c = λ request is. tells_none _ _

-- it was refused for another reason
other : (g : Over) (c : goal.After-send-in-Err g) → c.offer.result ≡ Err refusals.NoMemory → ⊥
other g c none = let own : c.in-Err.refusal ≡ refusals.NoMemory = cc in search rules

pub returns-in-Err-clause-state : goal.returns-in-Err-clause-state
returns-in-Err-clause-state g c =
    λ request is. let offer = c.offer.ensures in
    let turn =
    turn_of c.args.context.now.chain c.args.engine.now c.offer.new.self request c.in-Some.item c.offer.result (other g c)
    (rw c.in-Some.is at is) offer.outcome offer.state offer.same in
    search (rules, turn.0)

pub returns-in-Err-clause-written : goal.returns-in-Err-clause-written
returns-in-Err-clause-written g c =
    λ request is. let offer = c.offer.ensures in
    let turn =
    turn_of c.args.context.now.chain c.args.engine.now c.offer.new.self request c.in-Some.item c.offer.result (other g c)
    (rw c.in-Some.is at is) offer.outcome offer.state offer.same in
    subst (λ t. Writes (told_by g.W.Sink.seen c.args.output.now) (told_by g.W.Sink.seen c.send-in-Err.new.self) t c.send-in-Err.result)
    (rw c.in-Err.is at (turn.1 c.args.number)) (rw c.outcome_word-in-Err.ensures at c.send-in-Err.ensures)
