use Rattle.std.proofs.Common.{take, length}
use Rattle.lgm_par.specs.Pieces.{GivesAll}
use Rattle.lgm_par.specs.inner.Chunks.{piece_start}
use Rattle.lgm_par.proofs.pool.Pool.map.Given as goal

abbrev pub invariant-loop-part : goal.invariant-loop-part
invariant-loop-part g l = GivesAll g.F.Fn l.f (take (piece_start (length l.items) l.pieces (length l.yielded)) l.items) l.answers.items
