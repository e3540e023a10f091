use Rattle.std.proofs.Common.{◌∙◌, ap, drop}
use Rattle.lgm_board.specs.inner.Shown.{ops_of}
use Rattle.lgm_board.proofs.Boards.{ops_reach, completes}
use Rattle.lgm_board.proofs.writer.reach.Goals as goal
use Rattle.lgm_board.proofs.writer.reach.Goals.{in-Ok, in-Err}

pub returns-clause-ops : goal.returns-clause-ops
returns-clause-ops c = elim c.match-append.branch [
  | in-Ok w ↦ ap ops_of w.in-Ok.ensures.pending ∙ ops_reach (drop c.args.writer.now.behind c.args.writer.now.log.items) c.args.told
  | in-Err w ↦ ap ops_of w.in-Err.ensures.pending.1
]

pub returns-clause-complete : goal.returns-clause-complete
returns-clause-complete c = elim c.match-append.branch [
  | in-Ok w ↦ rw w.result-is (
      let es = drop c.args.writer.now.behind c.args.writer.now.log.items in
      rw (c.append.ensures.desk, w.in-Ok.ensures.pending) (completes c.args.writer.now.desk.shown.value.told es c.args.told c.requires))
  | in-Err w ↦ rw w.result-is tt
]
