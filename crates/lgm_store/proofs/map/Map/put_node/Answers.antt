use Rattle.std.proofs.Common.{◌≡◌, true, sym, ap, subst, ◌∙◌}
use Rattle.lgm_gossip.specs.Message.{Wire}
use Rattle.lgm_gossip.specs.declared.message.Message.TheVariants as wired
use Rattle.lgm_check.specs.declared.row.NodeRow.{NodeRow}
use Rattle.lgm_store.specs.Keys.{point_of}
use Rattle.lgm_store.specs.Rows.{ends_channel}
use Rattle.lgm_store.proofs.StoredUpdateLaws.{node-kept, node-rows}
use Rattle.lgm_store.proofs.map.Opened.{opened}
use Rattle.lgm_store.proofs.map.Map.put_node.Goals as goal
use Rattle.lgm_store.proofs.map.Map.put_node.Goals.{In_ok-put}

ended : (c : In_ok-put) → ends_channel c.args.self.now.channels (point_of c.args.row) ≡ true
ended c =
    ap (ends_channel c.args.self.now.channels) (sym (c.node.ensures ∙ ap point_of c.get.ensures))
    ∙ sym c.ends_channel.ensures ∙ c.if-not-ends_channel.false

pub invariant_of-self-2 : goal.invariant_of-self-2
invariant_of-self-2 c =
    let parts = opened c.deref_mut.ensures.value c.self.invariant c.self.view_is in
    node-kept c.deref_mut.result.now.channels c.deref_mut.result.now.nodes c.put.new.self c.deref_mut.result.now.ends c.deref_mut.result.now.banned
    c.args.row parts.kept c.in_ok-put.ensures.ok c.in_ok-put.ensures.ascend
    (subst (λ (row : NodeRow). Wire (wired.NodeAnnounce row.message) row.raw) c.get-2.ensures c.bytes_encode_row.ensures)
    (ap (λ rows. ends_channel rows.channels (point_of c.args.row)) parts.seen ∙ ended c)

pub returns-clause-ok : goal.returns-clause-ok
returns-clause-ok c =
    let parts = opened c.deref_mut.ensures.value c.self.invariant c.self.view_is in
    node-rows c.deref_mut.result.now.channels c.deref_mut.result.now.nodes c.put.new.self c.deref_mut.result.now.ends c.deref_mut.result.now.banned
    c.args.row parts.kept c.in_ok-put.ensures.ok c.in_ok-put.ensures.ascend c.args.self.now parts.seen (ended c)
