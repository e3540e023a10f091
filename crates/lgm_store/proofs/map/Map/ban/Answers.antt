use Rattle.std.proofs.Common.{◌≡◌, ◌∙◌, ap, sym, subst, take}
use Rattle.std.proofs.lemmas.List.{take_all}
use Rattle.lgm_store.specs.Rows.{Rows}
use Rattle.lgm_store.specs.History.{without_channel, with_banned, with_ban}
use Rattle.lgm_store.specs.Laws.{AreAllowed}
use Rattle.lgm_store.specs.declared.op.Op.TheVariants as ops
use Rattle.lgm_store.proofs.Bans.{closed_all-more, closed_all, allowed-none, banned-all}
use Rattle.lgm_store.proofs.AscendingRowLaws.{ascend-with_banned}
use Rattle.lgm_store.proofs.Lawful.{AreAllowed-absorbed}
use Rattle.lgm_store.proofs.Kept.{rows_of, kept-lawful}
use Rattle.lgm_store.proofs.map.Opened.{opened}
use Rattle.lgm_store.proofs.map.Map.ban.Goals as goal
use Rattle.lgm_store.proofs.map.Map.ban.Goals.{After-drop-scids-2}

pub invariant_of-self-2 : goal.invariant_of-self-2
invariant_of-self-2 c =
    let parts = opened c.deref_mut-parts.ensures.value c.self.invariant c.self.view_is in
    record {
      rows = parts.kept.rows;
      spelled = parts.kept.spelled;
      banned_ascend = rw (c.replace-banned.ensures.after) c.new.ensures.ascend;
      allowed = rw (c.replace-banned.ensures.after, c.new.ensures.none) (allowed-none _);
    }

pub loop-scid-preserved : goal.loop-scid-preserved
loop-scid-preserved c =
    c.close.ensures ∙ ap (λ rows. without_channel rows c.scid-item.result) c.loop-scid.invariant
    ∙ sym (closed_all-more _ c.deref-scid-items.result.now c.loop-scid.scid-index c.scid-item.result c.loop-scid-test.true c.scid-item.is)

-- the rows with the banned points restored
done : (c : After-drop-scids-2) → rows_of c.deref_mut.result.now.channels c.deref_mut.result.now.nodes
    c.replace-banned.result ≡ with_ban c.args.self.now c.args.ban.now
done c =
    let parts = opened c.deref_mut-parts.ensures.value c.self.invariant c.self.view_is in
    let last = opened c.deref_mut.ensures.value c.self-2.invariant c.self-2.view_is in
    let points : Rows → Rows = λ rows. record rows { banned = c.replace-banned.result } in
    let aside : Rows → Rows = λ rows. record rows { banned = c.replace-banned.new.dest } in
    let lawful =
    kept-lawful c.deref_mut-parts.result.now.channels c.deref_mut-parts.result.now.nodes c.deref_mut-parts.result.now.ends c.deref_mut-parts.result.now.banned
    c.args.self.now parts.seen parts.kept in
    let whole : take c.loop-scid.scid-index c.deref-scid-items.result.now ≡ c.in_ok-scids.scids.items =
    take_all c.loop-scid.scid-index c.deref-scid-items.result.now c.loop-scid-test.false ∙ c.deref-scid-items.ensures.value in
    let start : Rows = rows_of c.deref_mut-parts.result.now.channels c.deref_mut-parts.result.now.nodes c.replace-banned.new.dest in
    ap points last.seen
    ∙ banned-all c.args.self.now start c.loop-scid.self c.replace-banned.new.dest c.replace-banned.result
    c.in_ok-scids.scids.items c.args.ban.now lawful
    (c.replace-banned.ensures.after ∙ c.new.ensures.none) (ap aside parts.seen) c.in_ok-scids.ensures
    (c.loop-scid.invariant ∙ ap (closed_all start) whole)
    (c.replace-banned.ensures.value ∙ c.in_ok-ban.ensures.ok ∙ ap (λ rows. with_banned rows.banned c.args.ban.now) parts.seen)

pub invariant_of-self-3 : goal.invariant_of-self-3
invariant_of-self-3 c =
    let parts = opened c.deref_mut-parts.ensures.value c.self.invariant c.self.view_is in
    let last = opened c.deref_mut.ensures.value c.self-2.invariant c.self-2.view_is in
    let lawful =
    kept-lawful c.deref_mut-parts.result.now.channels c.deref_mut-parts.result.now.nodes c.deref_mut-parts.result.now.ends c.deref_mut-parts.result.now.banned
    c.args.self.now parts.seen parts.kept in
    record {
      rows = last.kept.rows;
      spelled = last.kept.spelled;
      banned_ascend =
          rw (c.replace-banned.ensures.value, c.in_ok-ban.ensures.ok)
          (ascend-with_banned c.deref_mut-parts.result.now.banned c.args.ban.now parts.kept.banned_ascend);
      allowed = subst AreAllowed (sym (done c)) (AreAllowed-absorbed c.args.self.now (ops.Ban c.args.ban.now) lawful.allowed);
    }

pub returns-clause-ok : goal.returns-clause-ok
returns-clause-ok c = done c
