use Rattle.std.proofs.Common.{take}
use Rattle.lgm_par.specs.Pieces.{GivesAll}
use Rattle.lgm_par.proofs.pieces.map_piece.Given as goal

abbrev pub invariant-loop-item : goal.invariant-loop-item
invariant-loop-item g l = GivesAll g.F.Fn l.f (take l.item-index l.items) l.answers.items
