use Rattle.std.proofs.Common.{◌≡◌, Bool, true, false, Option, Ok, sym, ap, subst, ◌∙◌}
use Rattle.std.specs.Prelude.{is_ok}
use Rattle.lgm_gossip.specs.Message.{Wire}
use Rattle.lgm_gossip.specs.declared.message.Message.TheVariants as wired
use Rattle.lgm_check.specs.declared.row.NodeRow.{NodeRow}
use Rattle.lgm_store.specs.Admission.{node_admission, node_is_newer}
use Rattle.lgm_store.specs.Keys.{point_of}
use Rattle.lgm_store.specs.Rows.{node_of, ends_channel, is_banned}
use Rattle.lgm_store.proofs.Verdicts.{node-admitted}
use Rattle.lgm_store.proofs.Lists.{lookup-node}
use Rattle.lgm_store.proofs.StoredUpdateLaws.{node-kept, node-rows}
use Rattle.lgm_store.proofs.map.Opened.{opened}
use Rattle.lgm_store.proofs.map.Map.add_node.Goals as goal
use Rattle.lgm_store.proofs.map.Map.add_node.Goals.{In_ok-put_newer}

own : (c : In_ok-put_newer) → c.node-node.result ≡ point_of c.args.row.now
own c = c.node-node.ensures ∙ ap point_of c.get.ensures

ended : (c : In_ok-put_newer) → ends_channel c.args.self.now.channels (point_of c.args.row.now) ≡ true
ended c =
    ap (ends_channel c.args.self.now.channels) (sym (own c)) ∙ sym c.ends_channel.ensures ∙ c.if-not-ends_channel.false

allowed : (c : In_ok-put_newer) → is_banned c.args.self.now.banned (point_of c.args.row.now) ≡ false
allowed c = ap (is_banned c.args.self.now.banned) (sym (own c)) ∙ sym c.banned.ensures ∙ c.if-banned.false

-- it is admitted if it is newer
admitted : (c : In_ok-put_newer) (added : Bool) → c.in_ok-put_newer.field-0 ≡ added
    → is_ok (node_admission (is_banned c.args.self.now.banned (point_of c.args.row.now))
    (ends_channel c.args.self.now.channels (point_of c.args.row.now))
    (node_of c.args.self.now.nodes (point_of c.args.row.now)) c.args.row.now) ≡ added
admitted c added tested =
    let parts = opened c.deref_mut.ensures.value c.self.invariant c.self.view_is in
    let stored =
    lookup-node c.deref_mut.result.now.nodes (point_of c.args.row.now) parts.kept.rows.nodes_keyed
    ∙ ap (λ rows. node_of rows.nodes (point_of c.args.row.now)) parts.seen in
    node-admitted _ _ _ c.args.row.now (allowed c) (ended c)
    ∙ ap (λ (o : Option NodeRow). node_is_newer o c.args.row.now) (sym stored)
    ∙ c.put_newer.ensures.newer added (c.in_ok-put_newer.was ∙ ap (λ (b : Bool). Ok b) tested)

pub returns-then-not-branch-clause-admitted : goal.returns-then-not-branch-clause-admitted
returns-then-not-branch-clause-admitted c = λ added is.
    let same : false ≡ added = cc in admitted c.before added (c.if-not-branch.true ∙ same)

pub returns-clause-admitted : goal.returns-clause-admitted
returns-clause-admitted c = λ added is.
    let same : true ≡ added = cc in admitted c.before added (c.if-not-branch.false ∙ same)

pub invariant_of-self-2 : goal.invariant_of-self-2
invariant_of-self-2 c =
    let parts = opened c.deref_mut.ensures.value c.self.invariant c.self.view_is in
    let answered = c.in_ok-put_newer.was ∙ ap (λ (b : Bool). Ok b) c.if-not-branch.false in
    node-kept c.deref_mut.result.now.channels c.deref_mut.result.now.nodes c.put_newer.new.self c.deref_mut.result.now.ends c.deref_mut.result.now.banned
    c.args.row.now parts.kept (c.put_newer.ensures.put answered) (c.put_newer.ensures.ascend answered)
    (subst (λ (row : NodeRow). Wire (wired.NodeAnnounce row.message) row.raw) c.get-2.ensures c.bytes_encode_row.ensures)
    (ap (λ rows. ends_channel rows.channels (point_of c.args.row.now)) parts.seen ∙ ended c.before)

pub returns-clause-stored : goal.returns-clause-stored
returns-clause-stored c = λ _.
    let parts = opened c.deref_mut.ensures.value c.self.invariant c.self.view_is in
    let answered = c.in_ok-put_newer.was ∙ ap (λ (b : Bool). Ok b) c.if-not-branch.false in
    node-rows c.deref_mut.result.now.channels c.deref_mut.result.now.nodes c.put_newer.new.self c.deref_mut.result.now.ends c.deref_mut.result.now.banned
    c.args.row.now parts.kept (c.put_newer.ensures.put answered) (c.put_newer.ensures.ascend answered)
    c.args.self.now parts.seen (ended c.before)
