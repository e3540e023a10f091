use Rattle.std.proofs.Common.{◌++◌, sym, ap, subst}
use Rattle.std.specs.List.{flat_map}
use Rattle.std.proofs.lemmas.Result.{err_from_is_err_and}
use Rattle.lgm_script.specs.Text.{message_line}
use Rattle.lgm_script.proofs.WrittenTextLaws.{onward_first, tells_none}
use Rattle.lgm_answers.proofs.Batches.{onward_added, added_stops, sends_rest}
use Rattle.lgm_answers.proofs.Messages.{Gives, gave_one, gave_all}
use Rattle.lgm_answers.proofs.send.send_messages.Goals as goal

pub returns-in_err-lead : goal.returns-in_err-lead
returns-in_err-lead g c =
    let p = err_from_is_err_and c.from_residual.result c.from_residual.ensures.1 in
    λ all gives. rw (p.1, p.2) (tells_none _ _)

pub returns-in_err-batch : goal.returns-in_err-batch
returns-in_err-batch g c =
    let p = err_from_is_err_and c.from_residual-in_err-batch.result c.from_residual-in_err-batch.ensures.1 in
    λ all gives. rw (p.1, p.2) (tells_none _ _)

pub loop-message-init : goal.loop-message-init
loop-message-init g c = λ all gives. (
  all,
  subst (λ it. Gives g.I.Iterator.next_gives it all)
      (sym c.into_iter-message-iterator.ensures.into_iter_gives) gives,
  onward_first _ _ _ (ap (λ waiting. flat_map (message_line c.args.number c.args.peer) waiting
      ++ flat_map (message_line c.args.number c.args.peer) all)
      (sym c.in_ok-batch.ensures)),
)

pub loop-message-preserved : goal.loop-message-preserved
loop-message-preserved g c = λ all gives.
    let now = c.loop-message.invariant all gives in
    let next = gave_one g.I.Iterator.next_gives now.0 _ _ _ now.1 c.in-Some.ensures.steps in (
      next.others,
      next.left,
      onward_added _ _ _ _ _ _ now.2 _ _ _ (ap (flat_map (message_line c.args.number c.args.peer)) next.is)
          (rw c.in_ok-lead.ensures at c.in_ok-add.ensures.adds),
    )

pub returns-in_err-add : goal.returns-in_err-add
returns-in_err-add g c =
    let p = err_from_is_err_and c.from_residual-in_err-add.result c.from_residual-in_err-add.ensures.1 in
    λ all gives.
    let now = c.loop-message.invariant all gives in
    let next = gave_one g.I.Iterator.next_gives now.0 _ _ _ now.1 c.in-Some.ensures.steps in
    rw (p.1, p.2) (added_stops _ _ _ _ _ _ now.2 _ _ _ (ap (flat_map (message_line c.args.number c.args.peer)) next.is)
    (rw c.in_ok-lead.ensures at c.in_err-add.ensures.adds))

pub returns : goal.returns
returns g c = λ all gives.
    let now = c.loop-message.invariant all gives in
    sends_rest _ _ _ _ _ _ now.2 (ap (flat_map (message_line c.args.number c.args.peer))
    (gave_all g.I.Iterator.next_gives now.0 _ _ now.1 c.in-None.ensures.steps)) c.send.result
    (rw c.in_ok-lead.ensures at c.send.ensures.written)
