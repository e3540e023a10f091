use Rattle.std.proofs.Common.{◌≡◌, ◌≤◌, ◌+◌, length}
use Rattle.std.specs.Vec.Iter.{into_iter_items, into_iter_len}
use Rattle.lgm_script.specs.Output.{told_by}
use Rattle.lgm_answers.specs.declared.run_fault.TheConstants.{MAX_LINES}
use Rattle.lgm_answers.specs.Script.{text_for}
use Rattle.lgm_run.specs.inner.Steps.{state_after, state_from, text_from}
use Rattle.lgm_run.specs.inner.CheckedItem.{IsItemOf}
use Rattle.lgm_run.proofs.TurnLaws.{AreLeft}
use Rattle.lgm_run.proofs.answer_group.answer_items.Given as goal

abbrev pub invariant-loop-item : goal.invariant-loop-item
invariant-loop-item g l = record {
  len : into_iter_len l.item-iterator ≡ length (into_iter_items l.item-iterator);
  number : l.number + length (into_iter_items l.item-iterator) ≡ l.first + length l.group.lines.items;
  few : l.engine.accepted + length (into_iter_items l.item-iterator) ≤ MAX_LINES;
  left : AreLeft (state_after l.context.chain) (text_for l.context.chain) (IsItemOf l.context.chain)
      (state_from l.context.chain l.fn.engine l.group.lines.items)
      (told_by g.W.Sink.seen l.fn.output)
      (text_from l.context.chain l.first l.fn.engine l.group.lines.items) (into_iter_items l.item-iterator)
      l.number
      l.engine (told_by g.W.Sink.seen l.output);
}
