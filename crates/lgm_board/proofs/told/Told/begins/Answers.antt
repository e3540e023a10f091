use Rattle.std.proofs.Common.{ap, subst, List}
use mathlib.Core.List.{IsPrefix}
use Rattle.lgm_store.specs.declared.op.Op.{Op}
use Rattle.lgm_board.proofs.Beginnings.{compared}
use Rattle.lgm_board.proofs.told.Told.begins.Goals as goal

pub returns : goal.returns
returns c =
    let both = c.learn.new.self.log in
    let this : IsPrefix c.self.inside.seen.log both =
    subst (λ (l : List (List Op)). IsPrefix l both) (ap (λ s. s.log) c.again-both.ensures)
    c.learn.ensures.2 in
    rw (← c.self.view_is, ← c.other.view_is)
    (compared c.self.inside.seen.log c.other.inside.seen.log both c.self.inside.count c.other.inside.count
    c.self.invariant.0 c.other.invariant.0 this c.learn.ensures.3)
