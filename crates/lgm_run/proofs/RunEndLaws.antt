-- What was written at the end of a run.
use Rattle.std.proofs.Common.{◌≡◌, inl, inr, ℕ, List, [], Option, Some, None, Result, Ok, Err, refl, sym, ap, subst, ◌∙◌, arith}
use Rattle.std.specs.Prelude.{◌≢◌, IfSome, IfOk, IfErr}
use Rattle.std.proofs.lemmas.Option.{IfSome_then}
use Rattle.std.proofs.lemmas.Result.{IfOk-weaker}
use Rattle.lgm_wire.specs.declared.chain_hash.ChainHash.{ChainHash}
use Rattle.lgm_script.specs.declared.output.SendFault.TheVariants.{Write as SendWrite}
use Rattle.lgm_script.specs.Device.{Input, Written, Appends, AppendsSome}
use Rattle.lgm_script.specs.Output.{OutputState, Tells, TellsSome}
use Rattle.lgm_script.proofs.AppendedBytesLaws.{appends_nothing}
use Rattle.lgm_script.proofs.WrittenTextLaws.{taken_all, taken_some, some_flushed, some_flushed_part}
use Rattle.lgm_answers.specs.declared.run_fault.TheConstants.{MAX_LINES}
use Rattle.lgm_answers.specs.declared.run_fault.RunFault.{RunFault}
use Rattle.lgm_answers.specs.declared.run_fault.RunFault.TheVariants as faults
use Rattle.lgm_run.specs.declared.script_run.Counts.{Counts}
use Rattle.lgm_run.specs.Running.{NeedsNoBoard, IsTold, IsAnswered, IsTooMany, IsTooLong, IsCutShort}
use Rattle.lgm_run.specs.Runs.{Runs}
use Rattle.lgm_run.specs.inner.Ending.{IsFlushed, IsEnded}

told_as : (chain : ChainHash) (known : Option (List ℕ)) (script : List ℕ) (n : ℕ) (old mid new : OutputState)
    → old.buffered ≡ [] → Tells mid new [] → new.buffered ≡ [] → IsTold chain known (Tells old mid) script n
    → IsTold chain known (Appends old.sink.taken new.sink.taken) script n
told_as chain known script n old mid new empty flushed clear told =
    record {
      few = told.few;
      short = told.short;
      text = taken_all old mid new _ empty told.text flushed clear;
    }

abbrev fails : RunFault → Result Counts RunFault
fails fault = Err fault

-- what holds at a fault that comes before the rest is written, also holds of what was written
flushed_at : {P Q : Type 0} (mid new : OutputState) (answered result : Result Counts RunFault)
    (fault : RunFault)
    → IsEnded mid new answered result → fails fault ≢ fails faults.Write → (answered ≡ fails fault → P)
    → result ≡ fails fault → (IsFlushed mid new answered result → P → Q) → Q
flushed_at mid new answered result fault ended other told is by =
    elim ended [
      | inl flushed ↦ by flushed (told (sym flushed.same ∙ is))
      | inr unwritten ↦ elim unwritten [
        | inl failed ↦ absurd (other (sym is ∙ failed.write))
        | inr before ↦ absurd (other (sym is ∙ before.same ∙ before.failed))
      ]
    ]

-- a script that was cut short, with another text
cut_by : (chain : ChainHash) (known : Option (List ℕ)) (left script : Option (List ℕ))
    (told told' : List ℕ → Type 0)
    → ((text : List ℕ) → told text → told' text) → IfSome script (IsCutShort chain known told left)
    → IfSome script (IsCutShort chain known told' left)
cut_by chain known left script told told' by cut = IfSome_then script cut (λ s cut. record {
  answered = cut.answered;
  limit = cut.limit;
  read = cut.read;
  text = record { few = cut.text.few; short = cut.text.short; text = by _ cut.text.text };
})

if_err : {P : Type 0} (result : Result Counts RunFault) → P → IfErr result (λ _. P)
if_err (Ok counts) holds = tt
if_err (Err fault) holds = holds

module _ (chain : ChainHash) (known : Option (List ℕ)) (script : Option (List ℕ)) (old mid new : OutputState)
    (answered result : Result Counts RunFault) (empty : old.buffered ≡ [])
    (ended : IsEnded mid new answered result) where
  ok_flushed : (counts : Counts) → IsFlushed mid new answered result
      → IfSome script (IsAnswered chain known (Tells old mid) counts)
      → IfSome script (IsAnswered chain known (Appends old.sink.taken new.sink.taken) counts)
  ok_flushed counts flushed told = IfSome_then script told (λ s told. record {
    lines = told.lines;
    limit = told.limit;
    accepted = told.accepted;
    text = told_as chain known s counts.lines old mid new empty flushed.told flushed.clear told.text;
  })

  pub ok_written : IfOk answered (λ counts. IfSome script (IsAnswered chain known (Tells old mid) counts))
      → IfOk result (λ counts. IfSome script (IsAnswered chain known (Appends old.sink.taken new.sink.taken) counts))
  ok_written told =
      elim ended [
        | inl flushed ↦ subst (λ r. IfOk r (λ counts. IfSome script (IsAnswered chain known
            (Appends old.sink.taken new.sink.taken) counts))) (sym flushed.same)
            (IfOk-weaker answered _ _ (λ counts. ok_flushed counts flushed) told)
        | inr other ↦
            elim other [ inl failed ↦ rw failed.write tt | inr before ↦ rw (before.same, before.failed) tt ]
      ]

  pub many_written : (answered ≡ fails faults.TooManyLines
      → IfSome script (IsTooMany chain known (Tells old mid)))
      → result ≡ fails faults.TooManyLines
      → IfSome script (IsTooMany chain known (Appends old.sink.taken new.sink.taken))
  many_written told is =
      flushed_at mid new answered result faults.TooManyLines ended (λ same. cc) told is
      (λ flushed told. IfSome_then script told (λ s told. record {
        more = told.more;
        text = told_as chain known s MAX_LINES old mid new empty flushed.told flushed.clear told.text;
      }))

  pub long_written : (answered ≡ fails faults.LineTooLong
      → IfSome script (IsTooLong chain known (Tells old mid)))
      → result ≡ fails faults.LineTooLong
      → IfSome script (IsTooLong chain known (Appends old.sink.taken new.sink.taken))
  long_written told is =
      flushed_at mid new answered result faults.LineTooLong ended (λ same. cc) told is
      (λ flushed told. IfSome_then script told (λ s told. record {
        place = told.place;
        limit = told.limit;
        long = told.long;
        text = told_as chain known s told.place old mid new empty flushed.told flushed.clear told.text;
      }))

  -- what was written at a fault, or a whole text that couldn't be written
  cut_written : (left : Option (List ℕ)) → IfSome script (IsCutShort chain known (TellsSome old new) left)
      → IfErr result (λ _. IfSome script (IsCutShort chain known (AppendsSome old.sink.taken new.sink.taken) left))
  cut_written left cut =
      if_err result (cut_by chain known left script (TellsSome old new) (AppendsSome old.sink.taken new.sink.taken)
      (λ t. taken_some old new t empty) cut)

  pub fault_written : (left : Option (List ℕ))
      → IfSome script (IsCutShort chain known (TellsSome old mid) left)
      → IfErr result (λ _. IfSome script (IsCutShort chain known (AppendsSome old.sink.taken new.sink.taken) left))
  fault_written left told =
      elim ended [
        | inl flushed ↦ cut_written left (cut_by chain known left script (TellsSome old mid)
            (TellsSome old new)
            (λ t part. some_flushed old mid new t part flushed.told) told)
        | inr other ↦ elim other [
          | inl failed ↦ cut_written left (cut_by chain known left script (TellsSome old mid)
              (TellsSome old new)
              (λ t part. some_flushed_part old mid new t SendWrite part failed.part) told)
          | inr before ↦ cut_written left (subst (λ (t : OutputState).
              IfSome script (IsCutShort chain known (TellsSome old t) left)) (sym before.still) told)
        ]
      ]

  -- and it is the same sink
  pub writer_ended : mid.writer ≡ old.writer → new.writer ≡ old.writer
  writer_ended same =
      elim ended [
        | inl flushed ↦ flushed.told.writer ∙ same
        | inr other ↦ elim other [
          | inl failed ↦ failed.part.writer ∙ same
          | inr before ↦ ap (λ (t : OutputState). t.writer) before.still ∙ same
        ]
      ]

  -- a fault of writing what is left isn't one of a board either
  pub own_ended : IfErr answered NeedsNoBoard → IfErr result NeedsNoBoard
  own_ended own =
      elim ended [
        | inl flushed ↦ subst (λ r. IfErr r NeedsNoBoard) (sym flushed.same) own
        | inr other ↦ elim other [
          | inl failed ↦ subst (λ r. IfErr r NeedsNoBoard) (sym failed.write) tt
          | inr before ↦ subst (λ r. IfErr r NeedsNoBoard) (sym before.same) own
        ]
      ]

-- if there was no memory at the start, nothing was read or written
pub nothing_written : (chain : ChainHash) (known : Option (List ℕ)) (script taken : Option (List ℕ))
    → IfSome script (IsCutShort chain known (AppendsSome taken taken) script)
nothing_written chain known None taken = tt
nothing_written chain known (Some script) taken = record {
  answered = 0;
  limit = omega arith;
  read = record { front = []; rest = script; parts = refl; left_is = refl; whole = inl (omega arith) };
  text = record { few = omega arith; short = tt; text = (0, appends_nothing taken) };
}

pub nothing_ran : (chain : ChainHash) (known : Option (List ℕ)) (reader : Input) (writer : Written)
    → Runs chain known reader reader writer writer (fails faults.NoMemory)
nothing_ran chain known reader writer = record {
  ok = tt;
  too_many = λ is. absurd cc;
  too_long = λ is. absurd cc;
  fault = nothing_written chain known reader.left writer.taken;
  read = λ is. absurd cc;
  write = λ is. absurd cc;
  own = tt;
}
