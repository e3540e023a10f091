use Rattle.std.proofs.Common.{ap}
use Rattle.lgm_gossip.specs.declared.channel_update.ChannelUpdate.{ChannelUpdate}
use Rattle.lgm_check.specs.declared.row.UpdateRow.{UpdateRow}
use Rattle.lgm_gossip.proofs.LayoutLaws.{update_is}
use Rattle.lgm_check.proofs.stored_update.StoredUpdate.of.Goals as goal

pub invariant_of-result : goal.invariant_of-result
invariant_of-result c = rw (c.in_ok-copied.ensures, c.as_slice.ensures) (update_is c.args.row.now.message c.args.row.now.raw c.requires).0

pub returns : goal.returns
returns c =
    let row = c.args.row.now in
    rw (c.in_ok-copied.ensures, c.as_slice.ensures)
    (ap (λ (m : ChannelUpdate). let same : UpdateRow = record { message = m; raw = row.raw } in same) (update_is row.message row.raw c.requires).1)
