use Rattle.std.proofs.Common.{◌≡◌, ◌≤◌, Ok, length, rules, ap, subst, ◌∙◌}
use Rattle.lgm_store.specs.Admission.{admitted}
use Rattle.lgm_store.specs.Rows.{Rows}
use Rattle.lgm_timeline.specs.History.{most_kept}
use Rattle.lgm_timeline.specs.Timeline.{TimelineState}
use Rattle.lgm_timeline.proofs.Pasts.{offers_accepts}
use Rattle.lgm_timeline.proofs.timeline.Timeline.offer.Goals as goal

pub invariant_of-self-2 : goal.invariant_of-self-2
invariant_of-self-2 c =
    (c.log_op.ensures.past c.make_room.new.newest c.offer_at.new.self c.in_ok-keeps.ensures.goes.past
    c.in_ok-op.ensures.known c.in_ok-op.ensures.accepted).past

pub returns-clause-accepted : goal.returns-clause-accepted
returns-clause-accepted c =
    let op = c.in_ok-op.op in
    let was = offers_accepts op (admitted c.make_room.new.newest.rows c.args.message) c.in_ok-op.ensures.admission in
    let here = subst (λ (rows : Rows). admitted rows c.args.message ≡ Ok op) c.in_ok-keeps.ensures.rows was in
    record {
      op = op;
      accepts = subst (λ (timeline : TimelineState). admitted timeline.network.rows c.args.message ≡ Ok op) c.self.view_is here;
      becomes = search rules;
    }

pub returns-clause-marked : goal.returns-clause-marked
returns-clause-marked c =
    (c.log_op.ensures.past c.make_room.new.newest c.offer_at.new.self c.in_ok-keeps.ensures.goes.past
    c.in_ok-op.ensures.known c.in_ok-op.ensures.accepted).marked
    ∙ c.in_ok-keeps.ensures.goes.marked ∙ ap (λ timeline. timeline.marked) c.self.view_is

pub returns-clause-few : goal.returns-clause-few
returns-clause-few c =
    subst (λ (timeline : TimelineState). length c.log_op.new.self.log.ops ≤ most_kept timeline.network.rows) c.self.view_is
    (c.log_op.ensures.few (most_kept c.self.inside.newest.rows) c.in_ok-keeps.ensures.few)
