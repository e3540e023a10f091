use Rattle.std.proofs.Common.{◌≡◌, ◌≤◌, ◌-◌, ◌⊎◌, [], length, take}
use Rattle.lgm_script.specs.Lines.{ahead, HasNoLineFeed}
use Rattle.lgm_script.specs.Output.{told_by, Tells}
use Rattle.lgm_script.proofs.input.read.next_line.Given as goal

abbrev pub invariant-loop-count : goal.invariant-loop-count
invariant-loop-count g l = record {
  kept : ahead l.lines (g.R.Source.seen l.source).left ≡ ahead l.fn.lines (g.R.Source.seen l.fn.source).left;
  within : l.searched ≤ length l.lines;
  one : HasNoLineFeed (take l.searched l.lines);
  ready : HasNoLineFeed l.fn.lines ⊎ ((l.lines ≡ l.fn.lines) × (l.source ≡ l.fn.source));
  written : Tells (told_by g.W.Sink.seen l.fn.output) (told_by g.W.Sink.seen l.output) [];
  well : (g.R.Source.seen l.source).failures ≡ (g.R.Source.seen l.fn.source).failures;
}

abbrev pub decreases-loop-count : goal.decreases-loop-count
decreases-loop-count g l = 140001 - length l.lines
