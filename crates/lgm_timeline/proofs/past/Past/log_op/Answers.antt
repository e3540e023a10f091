use Rattle.std.proofs.Common.{[], ◌∷◌}
use Rattle.lgm_timeline.proofs.Followings.{push_goes, skip_goes}
use Rattle.lgm_timeline.proofs.Pasts.{past_on, still_own, kept_lasts, reached_lasts}
use Rattle.lgm_timeline.proofs.past.Past.log_op.Goals as goal

pub returns-then-keeps-clause-past : goal.returns-then-keeps-clause-past
returns-then-keeps-clause-past c = λ network next past known rows.
    let old = c.args.self.now in
    let new = c.push.new.self in
    past_on network next old new (c.args.op ∷ []) (push_goes old.log new c.args.op c.push.ensures.base c.push.ensures.ops)
    (record { known = known; rows = rows }) (still_own old.log new network next old.mark c.requires.own)
    (kept_lasts old.log new old.marked old.mark c.push.ensures.base) past

pub returns-else-keeps-clause-past : goal.returns-else-keeps-clause-past
returns-else-keeps-clause-past c = λ network next past known rows.
    let old = c.args.self.now in
    let new = c.skip.new.self in
    past_on network next old new (c.args.op ∷ []) (skip_goes old.log new (c.args.op ∷ []) c.skip.ensures.base c.skip.ensures.ops c.skip.ensures.further)
    (record { known = known; rows = rows }) (still_own old.log new network next old.mark c.requires.own)
    (reached_lasts old.log new old.marked old.mark (c.requires.reached c.if-keeps.false)) past
