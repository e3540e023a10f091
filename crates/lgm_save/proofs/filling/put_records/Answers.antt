use Rattle.std.proofs.Common.{arith, ap, sym, subst, ◌∙◌, ◌++◌, ℕ, List, length, take}
use Rattle.std.specs.List.{flat_map}
use Rattle.lgm_save.specs.declared.record.Record.{Record}
use Rattle.lgm_save.specs.Records.{bytes_of}
use Rattle.lgm_save.specs.inner.Filling.{IsFilled}
use Rattle.lgm_save.proofs.SavedLaws.{fits_more, taken_more, behind_more}
use Rattle.lgm_save.proofs.filling.put_records.Goals as goal

pub put_record-behind-requires-clause-room : goal.put_record-behind-requires-clause-room
put_record-behind-requires-clause-room c =
    omega (
      arith,
      c.loop-record.invariant.place,
      fits_more c.args.records.now c.loop-record.record-index c.record-item.result c.loop-record-test.true,
      ap (λ (r : Record). length (bytes_of r)) c.record-item.is,
      c.requires.room,
    )

pub loop-record-preserved : goal.loop-record-preserved
loop-record-preserved c =
    let records = c.args.records.now in
    let i = c.loop-record.record-index in
    let item = c.record-item.result in
    record {
      place = c.put_record-behind.ensures.end ∙ behind_more records i item c.args.at c.loop-record.behind c.loop-record-test.true c.record-item.is c.loop-record.invariant.place;
      filled = λ start front filled.
          subst (λ (s : List ℕ). IsFilled start s c.put_record-behind.result c.put_record-behind.new.room)
          (sym (taken_more front records i item c.loop-record-test.true c.record-item.is))
          (c.put_record-behind.ensures.filled start (front ++ flat_map bytes_of (take i records)) (c.loop-record.invariant.filled start front filled));
    }
