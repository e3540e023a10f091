use Rattle.std.proofs.Common.{inr}
use Rattle.lgm_c.specs.Paying.{seen_given}
use Rattle.lgm_c.proofs.next_part.send_next.Goals as goal

pub returns-in-Ok-clause-sends : goal.returns-in-Ok-clause-sends
returns-in-Ok-clause-sends c =
    let next = c.in-Ok.ensures.next in
    inr (inr (inr (
      next.0,
      c.write_next.ensures (seen_given c.args.sight.now c.args.state.now next.0) c.args.payment c.args.held.now
          c.next_part.new.payer next.1,
    )))
