use Rattle.std.proofs.Common.{◌∙◌, ap, drop}
use Rattle.lgm_board.specs.inner.Shown.{ops_of}
use Rattle.lgm_board.proofs.Boards.{ops_absorb}
use Rattle.lgm_board.proofs.writer.absorb.Goals as goal

pub returns-in-Ok-clause-appended : goal.returns-in-Ok-clause-appended
returns-in-Ok-clause-appended c = ap ops_of c.in-Ok.ensures.pending ∙ ops_absorb (drop c.args.writer.now.behind c.args.writer.now.log.items) c.args.op
