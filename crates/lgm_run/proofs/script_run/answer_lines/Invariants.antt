use Rattle.std.proofs.Common.{◌≤◌, ◌-◌}
use Rattle.lgm_answers.specs.declared.run_fault.TheConstants.{MAX_LINES}
use Rattle.lgm_script.specs.Output.{told_by}
use Rattle.lgm_run.proofs.Reached.{IsUpTo}
use Rattle.lgm_run.proofs.script_run.answer_lines.Given as goal

abbrev pub invariant-loop-number : goal.invariant-loop-number
invariant-loop-number g l = record {
  few : l.engine.accepted ≤ l.number;
  up_to : IsUpTo l.context.chain l.fn.engine.known (g.R.Source.seen l.fn.source)
      (told_by g.W.Sink.seen l.fn.output) l.number l.engine l.lines (g.R.Source.seen l.source)
      (told_by g.W.Sink.seen l.output);
}

abbrev pub decreases-loop-number : goal.decreases-loop-number
decreases-loop-number g l = MAX_LINES - l.number
