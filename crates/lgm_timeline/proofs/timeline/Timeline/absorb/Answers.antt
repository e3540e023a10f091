use Rattle.std.proofs.Common.{◌≤◌, length, ap, subst, ◌∙◌}
use Rattle.lgm_timeline.specs.History.{most_kept}
use Rattle.lgm_timeline.specs.Timeline.{TimelineState}
use Rattle.lgm_timeline.proofs.timeline.Timeline.absorb.Goals as goal

pub invariant_of-self-2 : goal.invariant_of-self-2
invariant_of-self-2 c =
    (c.log_op.ensures.past c.make_room.new.newest c.absorb.new.self c.in_ok-keeps.ensures.goes.past
    c.in_ok-absorb.ensures.known c.in_ok-absorb.ensures.rows).past

pub returns-clause-marked : goal.returns-clause-marked
returns-clause-marked c =
    (c.log_op.ensures.past c.make_room.new.newest c.absorb.new.self c.in_ok-keeps.ensures.goes.past
    c.in_ok-absorb.ensures.known c.in_ok-absorb.ensures.rows).marked
    ∙ c.in_ok-keeps.ensures.goes.marked ∙ ap (λ timeline. timeline.marked) c.self.view_is

pub returns-clause-few : goal.returns-clause-few
returns-clause-few c =
    subst (λ (timeline : TimelineState). length c.log_op.new.self.log.ops ≤ most_kept timeline.network.rows) c.self.view_is
    (c.log_op.ensures.few (most_kept c.self.inside.newest.rows) c.in_ok-keeps.ensures.few)
