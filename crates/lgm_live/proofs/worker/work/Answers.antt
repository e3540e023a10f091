use Rattle.std.proofs.Common.{◌≡◌, ap, ◌∙◌, take}
use Rattle.lgm_board.specs.Handles.{Sight}
use Rattle.lgm_live.proofs.Answers.{work_goes_on, rising_one_more}
use Rattle.lgm_live.proofs.worker.work.Goals as goal

pub loop-request-preserved : goal.loop-request-preserved
loop-request-preserved g c =
    let before = c.loop-request.invariant in
    let ops = c.loop-request.own.ops in
    let guard = c.in-Ok.guard in
    let entered = c.in-Ok.ensures in
    let known : guard.known ≡ c.args.eye.known = entered.known ∙ before.known in
    let requests = c.args.requests.now in
    let i = c.loop-request.request-index in
    let answer = c.in_ok-answer.field-0 in
    let answered = c.in_ok-answer.ensures in
    let pushed = c.in_ok-push.ensures.items in
    record {
      board = ap (λ (sight : Sight). sight.board) c.leave-own.ensures ∙ (entered.board ∙ before.board);
      known = ap (λ (sight : Sight). sight.known) c.leave-own.ensures ∙ known;
      answered = work_goes_on c.args.eye.known ops guard c.leave-own.result requests i _ c.loop-request.answers.items c.push.new.self.items answer
          c.leave-own.ensures known entered.seen c.loop-request-test.true pushed before.answered answered.version answered.result;
      rising = rising_one_more c.args.eye.known ops guard.ops (take i requests) c.loop-request.answers.items c.push.new.self.items answer
          entered.seen pushed before.answered answered.version before.rising;
    }
