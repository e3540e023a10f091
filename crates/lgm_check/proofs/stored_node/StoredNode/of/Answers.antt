use Rattle.std.proofs.Common.{ap}
use Rattle.lgm_gossip.specs.declared.node_announce.NodeAnnounce.{NodeAnnounce}
use Rattle.lgm_check.specs.declared.row.NodeRow.{NodeRow}
use Rattle.lgm_gossip.proofs.LayoutLaws.{node_is}
use Rattle.lgm_check.proofs.stored_node.StoredNode.of.Goals as goal

pub invariant_of-result : goal.invariant_of-result
invariant_of-result c = rw (c.in_ok-from_slice.ensures.ok, c.as_slice.ensures) (node_is c.args.row.now.message c.args.row.now.raw c.requires).0

pub returns : goal.returns
returns c =
    let row = c.args.row.now in
    rw (c.in_ok-from_slice.ensures.ok, c.as_slice.ensures)
    (ap (λ (m : NodeAnnounce). let same : NodeRow = record { message = m; raw = row.raw } in same) (node_is row.message row.raw c.requires).1)
