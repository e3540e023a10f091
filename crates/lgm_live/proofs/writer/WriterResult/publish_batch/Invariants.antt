use Rattle.std.proofs.Common.{◌≡◌, ◌+◌, ◌≤◌, List, ◌++◌, length, take}
use Rattle.lgm_store.specs.History.{fold}
use Rattle.lgm_script.specs.declared.grammar.item.Item.{Item}
use Rattle.lgm_live.specs.inner.WriterResult.{IsWritten}
use Rattle.lgm_live.proofs.writer.WriterResult.publish_batch.Given as goal

abbrev pub invariant-loop-item : goal.invariant-loop-item
invariant-loop-item g l = record {
  written : (items : List Item) → IsWritten l.chain items l.fn.self → IsWritten l.chain (items ++ take l.item-index l.batch) l.self;
  map : l.map ≡ fold l.self.ops.items;
  ends : l.self.ends ≡ l.fn.self.ends;
  few : length l.self.ops.items ≤ length l.fn.self.ops.items + l.item-index;
  grows : length l.fn.self.ops.items ≤ length l.self.ops.items;
  board : l.pen.board ≡ l.fn.pen.board;
  appended : l.pen.published ++ l.pen.pending ≡ l.self.ops.items;
}
