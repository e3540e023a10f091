use Rattle.lgm_live.proofs.Reports.{are_of, boards_stay, are_reported, ends_within, reported}
use Rattle.lgm_live.proofs.live_batches.live.Goals as goal

pub gather-report-requires-clause-within : goal.gather-report-requires-clause-within
gather-report-requires-clause-within g c =
    let both = c.run_both-written in
    ends_within c.args.chain.now c.as_slice.result.now both.new.pen.published both.result.0 both.ensures.written

pub gather-report-requires-clause-board : goal.gather-report-requires-clause-board
gather-report-requires-clause-board g c =
    let made = c.in-Ok.made in
    let are = are_of made.0.board c.args.known.now made.1.items c.in-Ok.ensures.board c.in-Ok.ensures.known in
    let works = c.run_both-written.result.1 in
    rw c.run_both-written.ensures.board (boards_stay made.0.board c.args.known.now made.1.items _ works are c.run_both-written.ensures.worked)

pub returns : goal.returns
returns g c =
    let made = c.in-Ok.made in
    let known = c.args.known.now in
    let are = are_of made.0.board known made.1.items c.in-Ok.ensures.board c.in-Ok.ensures.known in
    let both = c.run_both-written in
    let all =
    are_reported made.0.board known made.1.items c.args.lists.now both.new.pen.published both.result.1
    c.gather-report.result are (rw (← c.as_slice-lists.ensures) both.ensures.worked)
    c.gather-report.ensures.tied in
    record {
      report =
          reported c.args.chain.now known c.args.batches.now c.args.lists.now both.new.pen.published both.result.0
          c.gather-report.result c.gather-report.ensures.written (rw (← c.as_slice.ensures) both.ensures.written)
          all;
    }
