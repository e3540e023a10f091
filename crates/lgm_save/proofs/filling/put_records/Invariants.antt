use Rattle.std.proofs.Common.{◌≡◌, ℕ, ◌+◌, List, ◌++◌, length, take}
use Rattle.std.specs.List.{flat_map}
use Rattle.lgm_save.specs.Records.{bytes_of}
use Rattle.lgm_save.specs.inner.Filling.{IsFilled}
use Rattle.lgm_save.proofs.filling.put_records.Given as goal

abbrev pub invariant-loop-record : goal.invariant-loop-record
invariant-loop-record l = record {
  place : l.behind ≡ l.at + length (flat_map bytes_of (take l.record-index l.records));
  filled : (start front : List ℕ) → IsFilled start front l.at l.initial.room
      → IsFilled start (front ++ flat_map bytes_of (take l.record-index l.records)) l.behind l.room;
}
