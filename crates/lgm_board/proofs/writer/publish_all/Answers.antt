use Rattle.std.proofs.Common.{◌∙◌, ap, drop}
use Rattle.lgm_board.specs.inner.Contents.{Contents}
use Rattle.lgm_board.proofs.Boards.{publishes, told_after, known_after}
use Rattle.lgm_board.proofs.writer.publish_all.Goals as goal

pub publish_as-next-requires : goal.publish_as-next-requires
publish_as-next-requires g c next is =
    publishes _ _ c.args.writer.desk.shown.value next (drop c.args.writer.behind c.args.writer.log.items)
    c.requires.complete c.requires.few is

pub returns-in-Ok-clause-told : goal.returns-in-Ok-clause-told
returns-in-Ok-clause-told g c =
    let w = c.args.writer in
    let v = rw c.in-Ok.is at c.publish_as-next.ensures.values in
    (ap (λ (l : Contents). l.told) v.0 ∙ (told_after w.desk.shown.value (drop w.behind w.log.items) ∙ c.requires.complete), v.1)

pub returns-in-Ok-clause-known : goal.returns-in-Ok-clause-known
returns-in-Ok-clause-known g c =
    let w = c.args.writer in
    let v = rw c.in-Ok.is at c.publish_as-next.ensures.values in
    ap (λ (l : Contents). l.known) v.0 ∙ known_after w.desk.shown.value (drop w.behind w.log.items)
