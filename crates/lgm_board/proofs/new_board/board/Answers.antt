use Rattle.std.proofs.Common.{◌∙◌, ap}
use Rattle.lgm_board.specs.Handles.{History}
use Rattle.lgm_board.specs.inner.Contents.{Contents}
use Rattle.lgm_board.proofs.Boards.{opens}
use Rattle.lgm_board.proofs.new_board.board.Goals as goal

pub new-requires-3-clause-rule : goal.new-requires-3-clause-rule
new-requires-3-clause-rule g c =
    let first = c.in_ok-first.ensures in
    opens c.in_ok-first.first (ap (λ (x : Contents). x.rows) first) (ap (λ (x : Contents). x.absorbed) first)
    (ap (λ (x : Contents). x.told.ops) first ∙ (ap (λ (h : History). h.ops) c.reborrow.ensures ∙ c.open-head.ensures.ops))
