use Rattle.std.proofs.Common.{◌<◌, ◌≤◌, ◌∙◌, arith}
use Rattle.lgm_timeline.specs.History.{end}
use Rattle.lgm_timeline.proofs.Logs.{rows_step}
use Rattle.lgm_timeline.proofs.edition.Edition.catch_up.Goals as goal

pub loop-self-preserved : goal.loop-self-preserved
loop-self-preserved c =
    let log = c.args.log.now in
    let here = c.loop-self.self in
    let behind : here.at < c.args.to = omega arith in
    let kept : log.base ≤ here.at = omega arith in
    let within : here.at < end log = omega arith in
    record {
      rows = λ later ahead. rows_step log here.network.rows c.absorb.new.self.rows c.op.result.now here.at later kept within ahead
          c.op.ensures c.in_ok-absorb.ensures.rows ∙ c.loop-self.invariant.rows later (omega arith);
      known = c.in_ok-absorb.ensures.known ∙ c.loop-self.invariant.known;
      from = omega arith;
      before = omega arith;
      idle = λ there. absurd (omega (arith, there, behind, c.loop-self.invariant.from));
    }
