use Rattle.lgm_timeline.proofs.Pasts.{past_trim, slowest_lasts}
use Rattle.lgm_timeline.proofs.past.Past.trim.Goals as goal

pub returns-clause-stays : goal.returns-clause-stays
returns-clause-stays c = λ network past.
    let old = c.args.self.now in
    past_trim network old c.trim.new.self c.trim.ensures.trimmed
    (slowest_lasts old.log c.trim.new.self old.marked old.mark c.slowest.result c.unwrap_or-first.result c.end.result
    c.unwrap_or-first.ensures c.trim.ensures.until c.slowest.ensures) past
