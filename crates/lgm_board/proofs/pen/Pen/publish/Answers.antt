use Rattle.std.proofs.Common.{◌≡◌, ◌∙◌, ◌++◌, ap, sym, drop, length}
use Rattle.lgm_board.specs.inner.Book.{head_of}
use Rattle.lgm_board.specs.Handles.{History, history}
use Rattle.lgm_board.specs.inner.Shown.{whole}
use Rattle.lgm_board.proofs.Boards.{noted_whole, publishes_whole}
use Rattle.lgm_board.proofs.pen.Pen.publish.Goals as goal

pub invariant_of-self-in_err-reach : goal.invariant_of-self-in_err-reach
invariant_of-self-in_err-reach g c =
    let pen = c.self.inside in
    let k = pen.writer.desk.shown.value.told in
    let es = drop pen.writer.behind pen.writer.log.items in
    let w = c.reach.new.writer in
    let noted = c.if-not-extend.ensures in
    let inv = c.self.invariant in
    let same : whole w.desk.shown.value.told (drop w.behind w.log.items) ≡ whole k es =
    rw c.reach.ensures.desk (ap (λ ops. history k.board (k.ops ++ ops)) c.reach.ensures.ops) in (
      inv.0 ∙ ap head_of (sym noted.board),
      noted_whole pen.noted c.extend.new.self _ _ inv.1 noted.board noted.ops same,
      inv.2 ∙ ap (λ (t : History). length t.ops) (sym same),
      inv.3,
    )

pub invariant_of-self-2 : goal.invariant_of-self-2
invariant_of-self-2 g c =
    let pen = c.self.inside in
    let k = pen.writer.desk.shown.value.told in
    let es = drop pen.writer.behind pen.writer.log.items in
    let w = c.reach.new.writer in
    let w' = c.replace_with.new.dest in
    let noted = c.if-not-extend.ensures in
    let inv = c.self.invariant in
    let same : whole w.desk.shown.value.told (drop w.behind w.log.items) ≡ whole k es =
    rw c.reach.ensures.desk (ap (λ ops. history k.board (k.ops ++ ops)) c.reach.ensures.ops) in
    let then : whole w'.desk.shown.value.told (drop w'.behind w'.log.items) ≡ whole k es =
    publishes_whole c.replace_with.result w.desk.shown.value.told w'.desk.shown.value.told
    (drop w.behind w.log.items) (drop w'.behind w'.log.items) c.replace_with.ensures ∙ same in (
      inv.0 ∙ ap head_of (sym noted.board),
      noted_whole pen.noted c.extend.new.self _ _ inv.1 noted.board noted.ops then,
      inv.2 ∙ ap (λ (t : History). length t.ops) (sym then),
      inv.3,
    )
