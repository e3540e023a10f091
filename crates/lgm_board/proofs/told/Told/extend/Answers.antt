use Rattle.std.proofs.Common.{◌≡◌, sym, ap, ◌∙◌, subst}
use mathlib.Core.List.{IsPrefix}
use Rattle.lgm_board.specs.Lists.{joined}
use Rattle.lgm_board.specs.Handles.{History}
use Rattle.lgm_board.specs.inner.Book.{head_of}
use Rattle.lgm_board.proofs.HistoryLaws.{extends_moves}
use Rattle.lgm_board.proofs.told.Told.extend.Goals as goal

pub compare_exchange-found-requires : goal.compare_exchange-found-requires
compare_exchange-found-requires g c =
    let seen = c.self.inside.seen in
    let again = c.again-seen.ensures in
    let offer = c.plain-offer.ensures in
    let pen = c.no_pen-pen.ensures in
    let ask = g.M.Plain.ask c.args.about.now in
    let head : c.args.head.now ≡ head_of seen.book =
    subst (λ (k : History). c.args.head.now ≡ head_of k.board) (sym c.self.view_is) c.requires.head in
    let more : IsPrefix (joined seen.log) ask = subst (λ (k : History). IsPrefix k.ops ask) (sym c.self.view_is) c.requires.more in
    let book : c.again-seen.result.book ≡ c.args.head.now.book = ap (λ s. s.book) again ∙ sym (ap (λ w. w.book) head) in (
      ap (λ w. w.tracked) head,
      book,
      pen.0 ∙ book,
      offer.0,
      rw (ap (λ w. w.key) head, ap (λ s. s.log) again, pen.1, offer.1, offer.3 ∙ c.requires.plain)
          (extends_moves seen.log ask c.self.inside.count c.args.count (sym c.self.invariant.0) (sym c.requires.count.0) more),
    )
