use Rattle.std.proofs.Common.{sym, ◌*◌, ap, ◌∙◌, length, rules}
use Rattle.lgm_gossip.specs.inner.Segment.{text}
use Rattle.lgm_gossip.proofs.SegmentLaws.{room_at}
use Rattle.lgm_gossip.proofs.FixedWidthLaws.{cells_len}
use Rattle.lgm_gossip.proofs.EncodedIdsLaws.{id_cell}
use Rattle.lgm_gossip.proofs.TimestampListLaws.{pair_cell}
use Rattle.lgm_gossip.proofs.segment.room_after.Goals as goal

pub returns-in-Ids : goal.returns-in-Ids
returns-in-Ids c =
    let len = ap (λ p. length (text p)) c.in-Ids.is ∙ cells_len id_cell c.in-Ids.ids.now in
    room_at c.checked_sub-in-Ids.result c.args.room (length (text c.args.segment.now)) (length c.in-Ids.ids.now * 8) (sym len) (search rules)

pub returns-in-Pairs : goal.returns-in-Pairs
returns-in-Pairs c =
    let len = ap (λ p. length (text p)) c.in-Pairs.is ∙ cells_len pair_cell c.in-Pairs.pairs.now in
    room_at c.checked_sub-in-Pairs.result c.args.room (length (text c.args.segment.now)) (length c.in-Pairs.pairs.now * 8) (sym len) (search rules)
