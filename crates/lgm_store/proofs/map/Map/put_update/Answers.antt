use Rattle.std.proofs.Common.{subst}
use Rattle.lgm_gossip.specs.Message.{Wire}
use Rattle.lgm_gossip.specs.declared.message.Message.TheVariants as wired
use Rattle.lgm_check.specs.declared.row.UpdateRow.{UpdateRow}
use Rattle.lgm_store.proofs.StoredUpdateLaws.{put-kept, put-rows}
use Rattle.lgm_store.proofs.map.Opened.{opened}
use Rattle.lgm_store.proofs.map.Map.put_update.Goals as goal

pub invariant_of-self : goal.invariant_of-self
invariant_of-self c =
    let parts = opened c.deref_mut.ensures.value c.self.invariant c.self.view_is in
    rw c.put_update.ensures (put-kept c.deref_mut.result.now.channels c.deref_mut.result.now.nodes c.deref_mut.result.now.ends
    c.deref_mut.result.now.banned c.args.row parts.kept
    (subst (λ (row : UpdateRow). Wire (wired.ChannelUpdate row.message) row.raw) c.get.ensures c.bytes_encode_row.ensures))

pub returns : goal.returns
returns c =
    let parts = opened c.deref_mut.ensures.value c.self.invariant c.self.view_is in
    rw c.put_update.ensures (put-rows c.deref_mut.result.now.channels c.deref_mut.result.now.nodes c.deref_mut.result.now.ends
    c.deref_mut.result.now.banned c.args.row parts.kept c.args.self.now parts.seen)
