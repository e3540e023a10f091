use Rattle.lgm_timeline.specs.declared.past.Past.{Past}
use Rattle.lgm_timeline.specs.inner.Past.{StaysPast}
use Rattle.lgm_timeline.proofs.Pasts.{latest_stays, stays_then}
use Rattle.lgm_timeline.proofs.past.Past.publish_next.Goals as goal

pub returns-clause-stays : goal.returns-clause-stays
returns-clause-stays c =
    let network = c.args.newest.now in
    let old = c.args.self.now in
    let ready = c.next_edition.new.self in
    let turned : Past = record ready { latest = c.replace.new.dest; older = c.replace.result } in
    let stays : StaysPast network old turned = rw (c.replace.ensures.after, c.replace.ensures.value)
    (latest_stays network old ready c.in_ok-next.next c.in_ok-next.ensures.stays c.in_ok-next.ensures.edition) in
    stays_then network old turned c.trim.new.self stays (c.trim.ensures.stays network stays.past)
