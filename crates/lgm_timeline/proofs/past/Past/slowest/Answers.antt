use Rattle.lgm_timeline.proofs.Pasts.{slower_yet}
use Rattle.lgm_timeline.proofs.past.Past.slowest.Goals as goal

pub returns : goal.returns
returns c =
    let past = c.args.self.now in
    let further = slower_yet past.log c.needed_by_mark.result c.slower-slowest.result past.marked past.mark
    c.slower-slowest.ensures c.needed_by_mark.ensures in
    slower_yet past.log c.slower-slowest.result c.slower.result past.marked past.mark c.slower.ensures further
