use Rattle.std.proofs.Common.{◌≡◌, ◌≤◌, ◌-◌, List, length}
use Rattle.lgm_answers.specs.declared.run_fault.TheConstants.{MAX_LINES}
use Rattle.lgm_script.specs.declared.grammar.command.Command.{Command}
use Rattle.lgm_script.specs.Output.{told_by}
use Rattle.lgm_live.specs.inner.Reading.{with_lines}
use Rattle.lgm_live.proofs.Readings.{IsReadTo}
use Rattle.lgm_live.proofs.read_script.read_lines.Given as goal

abbrev pub invariant-loop-number : goal.invariant-loop-number
invariant-loop-number g l = record {
  asked : List Command;
  within : l.number ≤ MAX_LINES;
  count : l.number ≡ length asked;
  added : l.parsed ≡ with_lines l.fn.parsed asked;
  read_to : IsReadTo (g.R.Source.seen l.fn.source) (told_by g.W.Sink.seen l.fn.output) asked l.lines
      (g.R.Source.seen l.source) (told_by g.W.Sink.seen l.output);
}

abbrev pub decreases-loop-number : goal.decreases-loop-number
decreases-loop-number g l = MAX_LINES - l.number
