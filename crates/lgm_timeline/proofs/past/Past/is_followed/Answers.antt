use Rattle.std.proofs.Common.{sym, ◌∙◌}
use Rattle.lgm_timeline.specs.History.{moment, end}
use Rattle.lgm_timeline.proofs.Pasts.{idle_reached}
use Rattle.lgm_timeline.proofs.past.Past.is_followed.Goals as goal

pub returns : goal.returns
returns c = λ network past idle.
    let now = c.args.self.now in
    idle_reached now.log (moment network (end now.log)) now.marked now.mark c.slowest.result (sym c.is_some.ensures ∙ idle) c.slowest.ensures past.mark
