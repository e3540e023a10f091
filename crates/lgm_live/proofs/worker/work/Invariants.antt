use Rattle.std.proofs.Common.{◌≡◌, take}
use Rattle.lgm_live.specs.Answers.{AreAnsweredBy, NeverFall}
use Rattle.lgm_live.proofs.worker.work.Given as goal

abbrev pub invariant-loop-request : goal.invariant-loop-request
invariant-loop-request g l = record {
  board : l.own.board ≡ l.fn.eye.board;
  known : l.own.known ≡ l.fn.eye.known;
  answered : AreAnsweredBy l.fn.eye.known l.own.ops (take l.request-index l.requests) l.answers.items;
  rising : NeverFall l.answers.items;
}
