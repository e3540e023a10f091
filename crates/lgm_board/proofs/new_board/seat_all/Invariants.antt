use Rattle.std.proofs.Common.{◌≡◌, length, Some, All}
use Rattle.left_right.specs.Sides.{view as last_of}
use Rattle.lgm_board.specs.inner.Contents.{sight}
use Rattle.lgm_board.proofs.new_board.seat_all.Given as goal

abbrev pub invariant-loop-eye : goal.invariant-loop-eye
invariant-loop-eye l = record {
  shown : l.writer.desk.shown ≡ l.fn.writer.desk.shown;
  log : l.writer.log ≡ l.fn.writer.log;
  behind : l.writer.behind ≡ l.fn.writer.behind;
  seen : last_of l.writer.desk.place ≡ Some l.writer.desk.shown.value;
  counted : length l.eyes.items ≡ l._eye;
  fresh : All (λ eye. eye ≡ sight l.fn.writer.desk.shown.value.known l.told) l.eyes.items;
}
