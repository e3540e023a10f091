-- The effect of log entries on a snapshot.
use Rattle.std.specs.Prelude.{◌+◌, ◌==◌, if◌then◌else◌}
use Rattle.lgm_store.specs.declared.op.Op.{Op}
use Rattle.lgm_store.specs.History.{absorbed}
use Rattle.lgm_board.specs.Limits.{most_operations}
use Rattle.lgm_board.specs.declared.snapshot.LogEntry.{LogEntry}
use Rattle.lgm_board.specs.declared.snapshot.LogEntry.TheVariants.{Absorb, Reached}
use Rattle.lgm_board.specs.inner.Contents.{Contents}

-- after an operation, below the limit
abbrev pub after_op : Contents → Op → Contents
after_op contents op =
    if contents.absorbed == most_operations then contents
    else record contents { rows = absorbed contents.rows op; absorbed = contents.absorbed + 1 }

-- after one more entry
abbrev pub after_entry : Contents → LogEntry → Contents
after_entry contents (Absorb op) = after_op contents op
after_entry contents (Reached told) = record contents { told = told }
