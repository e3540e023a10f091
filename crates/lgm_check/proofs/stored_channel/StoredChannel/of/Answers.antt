use Rattle.std.proofs.Common.{ap}
use Rattle.lgm_gossip.specs.declared.announce.Announce.{Announce}
use Rattle.lgm_check.specs.declared.row.ChannelRow.{ChannelRow}
use Rattle.lgm_gossip.proofs.LayoutLaws.{announce_is}
use Rattle.lgm_check.proofs.stored_channel.StoredChannel.of.Goals as goal

pub invariant_of-result : goal.invariant_of-result
invariant_of-result c = rw (c.in_ok-copied.ensures, c.as_slice.ensures) (announce_is c.args.row.now.message c.args.row.now.raw c.requires).0

pub returns : goal.returns
returns c =
    let row = c.args.row.now in
    rw (c.in_ok-copied.ensures, c.as_slice.ensures)
    (ap (λ (m : Announce). let same : ChannelRow = record { message = m; sat = row.sat; raw = row.raw } in
    same) (announce_is row.message row.raw c.requires).1)
