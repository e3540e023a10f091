use Rattle.std.proofs.Common.{◌≡◌, ◌≤◌, [], length, take}
use Rattle.std.specs.Prelude.{All}
use Rattle.lgm_store.specs.History.{fold}
use Rattle.lgm_live.specs.Batches.{items_of, ends_of}
use Rattle.lgm_live.specs.inner.WriterResult.{IsWritten}
use Rattle.lgm_live.proofs.writer.publish_batches.Given as goal

abbrev pub invariant-loop-batch : goal.invariant-loop-batch
invariant-loop-batch g l = record {
  written : IsWritten l.chain (items_of (take l.batch-index l.batches)) l.written;
  map : l.map ≡ fold l.written.ops.items;
  ends : l.written.ends.items ≡ ends_of l.chain (take l.batch-index l.batches);
  within : All (λ end. end ≤ length l.written.ops.items) l.written.ends.items;
  few : length l.written.ops.items ≤ length (items_of (take l.batch-index l.batches));
  board : l.pen.board ≡ l.fn.pen.board;
  published : l.pen.published ≡ l.written.ops.items;
  pending : l.pen.pending ≡ [];
}
