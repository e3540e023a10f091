-- How reading a script continues and ends.
use Rattle.std.proofs.Common.{◌≡◌, ℕ, ◌+◌, ◌<◌, ◌≤◌, List, [], ◌∷◌, ◌++◌, length, take, drop, Result, Ok, Err, refl, sym, subst, ◌∙◌}
use Rattle.std.specs.Prelude.{◌≢◌, IfSome, IfOk}
use Rattle.lgm_script.specs.declared.input.line_reader.TheConstants.{MAX_LINE}
use Rattle.lgm_script.specs.declared.output.SendFault.TheVariants.{Write as SendWrite}
use Rattle.lgm_script.specs.declared.input.read.LineFault.{LineFault}
use Rattle.lgm_script.specs.declared.input.read.LineFault.TheVariants as lines
use Rattle.lgm_script.specs.declared.grammar.command.Command.{Command}
use Rattle.lgm_script.specs.Device.{Input, IsAtEnd}
use Rattle.lgm_script.specs.Lines.{ahead, IsFirstLine, IsLongerThan}
use Rattle.lgm_script.specs.Output.{OutputState, Tells, TellsPart}
use Rattle.lgm_script.specs.Command.{command_of}
use Rattle.lgm_answers.specs.declared.run_fault.TheConstants.{MAX_LINES}
use Rattle.lgm_answers.proofs.LineFaults.{failed, ends_at}
use Rattle.lgm_answers.specs.declared.run_fault.RunFault.{RunFault}
use Rattle.lgm_answers.specs.declared.run_fault.RunFault.TheVariants as faults
use Rattle.lgm_answers.specs.Faults.{line_fault}
use Rattle.lgm_live.specs.Running.{HasMoreLines}
use Rattle.lgm_live.specs.inner.Gathered.{Gathered}
use Rattle.lgm_live.specs.inner.Reading.{HasRead, AreAdded, with_lines}
use Rattle.lgm_live.proofs.WholeLines.{SoFar, step, ends, many, long, silent, silent_fault}

abbrev ended : RunFault → Result (Unit {0}) RunFault
ended e = Err e

-- these were requested so far, nothing was written meanwhile, and no device failed
pub record IsReadTo (source : Input) (output : OutputState) (asked : List Command) (buffered : List ℕ)
    (mid : Input) (between : OutputState) : Type 0 where
  pub read_same : mid.failures ≡ source.failures
  pub write_same : between.sink.failures ≡ output.sink.failures
  pub taken_same : between.sink.taken ≡ output.sink.taken
  pub writer : between.writer ≡ output.writer
  pub clear : between.buffered ≡ []
  pub so_far : SoFar source.left asked (ahead buffered mid.left)

module _ {source : Input} {output : OutputState} {asked : List Command} {buffered : List ℕ} {mid : Input}
    {between : OutputState} (read_to : IsReadTo source output asked buffered mid between) where
  -- a line couldn't be read
  pub line_failed : {T : Type 0} {whole : Unit {0} → Type 0} (buffered' : List ℕ) (source' : Input)
      (output' : OutputState)
      (fault : LineFault) → ahead buffered' source'.left ≡ ahead buffered mid.left
      → (failed {T = T} fault ≢ failed lines.Write → Tells between output' [])
      → (failed {T = T} fault ≡ failed lines.Write → TellsPart between output' [] SendWrite)
      → (failed {T = T} fault ≡ failed lines.Read → mid.failures < source'.failures)
      → (fault ≡ lines.TooLong → (length asked < MAX_LINES)
      × IsLongerThan MAX_LINE (ahead buffered' source'.left))
      → HasRead source source' output output' whole
      (ended (line_fault fault))
  line_failed {T = T} buffered' source' output' fault kept told part read longer =
      let input = ahead buffered' source'.left in
      let quiet =
      silent_fault {T = T} fault between output'
      read_to.clear told part in
      let end =
      ends_at (Unit {0}) {U = T} fault read_to.read_same
      read_to.write_same (λ not. (told not).well) (λ is. (part is).cause refl) read in
      record {
        writer = quiet.writer ∙ read_to.writer;
        ok = tt;
        too_many = λ same. absurd (end.not_many same);
        too_long = λ same. let is = end.too_long same in
            long source.left asked input (subst (SoFar source.left asked) (sym kept) read_to.so_far)
            (longer is).0 (longer is).1;
        silent = quiet.taken ∙ read_to.taken_same;
        buffered = quiet.clear;
        read = end.read;
        write = end.write;
        well = end.well;
      }

  -- more was read
  pub read_on : (buffered' : List ℕ) (source' : Input) (output' : OutputState)
      → ahead buffered' source'.left ≡ ahead buffered mid.left → source'.failures ≡ mid.failures
      → Tells between output' []
      → IsReadTo source output asked buffered' source' output'
  read_on buffered' source' output' kept well told =
      let quiet =
      silent between output' read_to.clear told in
      record {
        read_same = well ∙ read_to.read_same;
        write_same = told.well ∙ read_to.write_same;
        taken_same = quiet.taken ∙ read_to.taken_same;
        writer = quiet.writer ∙ read_to.writer;
        clear = quiet.clear;
        so_far = subst (SoFar source.left asked) (sym kept) read_to.so_far;
      }

  -- one more line was read
  pub line_read : (count : ℕ) → IsFirstLine buffered mid.left count → count ≤ MAX_LINE
      → IsReadTo source output
      (asked ++ command_of (take count buffered) ∷ []) (drop (count + 1) buffered) mid between
  line_read count first small =
      record {
        read_same = read_to.read_same;
        write_same = read_to.write_same;
        taken_same = read_to.taken_same;
        writer = read_to.writer;
        clear = read_to.clear;
        so_far = step source.left asked buffered mid.left read_to.so_far count first small;
      }

  -- it ended otherwise after what was read, and no device failed
  has_ended : (whole : Unit {0} → Type 0) (result : Result (Unit {0}) RunFault) → IfOk result whole
      → (result ≡ ended faults.TooManyLines → IfSome source.left HasMoreLines)
      → result ≢ ended faults.LineTooLong → result ≢ ended faults.Read → result ≢ ended faults.Write
      → HasRead source mid output between whole result
  has_ended whole result ok too_many too_long read write = record {
    writer = read_to.writer;
    ok = ok;
    too_many = too_many;
    too_long = λ same. absurd (too_long same);
    silent = read_to.taken_same;
    buffered = read_to.clear;
    read = λ same. absurd (read same);
    write = λ same. absurd (write same);
    well = λ _. read_to.write_same;
  }

  -- all lines were read
  pub all_read : (old new : Gathered) → new ≡ with_lines old asked → length asked ≤ MAX_LINES
      → IsAtEnd (ahead buffered mid.left)
      → HasRead source mid output between (λ _. AreAdded source.left
      old new) (Ok (tt {0}))
  all_read old new added few end =
      has_ended (λ _. AreAdded source.left old new) (Ok (tt {0}))
      (record {
        asked = asked;
        few = few;
        added = added;
        whole = ends source.left asked (ahead buffered mid.left) read_to.so_far end few;
      })
      (λ same. absurd cc) (λ same. absurd cc) (λ same. absurd cc) (λ same. absurd cc)

  -- there are more lines
  pub more_lines : {whole : Unit {0} → Type 0} → length asked ≡ MAX_LINES → 0 < length buffered
      → HasRead source mid output between whole
      (ended faults.TooManyLines)
  more_lines {whole} full more =
      has_ended whole (ended faults.TooManyLines) tt
      (λ _. many source.left asked buffered mid.left read_to.so_far more full)
      (λ same. absurd cc) (λ same. absurd cc) (λ same. absurd cc)

  -- memory ran out
  pub no_memory : {whole : Unit {0} → Type 0}
      → HasRead source mid output between whole
      (ended faults.NoMemory)
  no_memory {whole} =
      has_ended whole (ended faults.NoMemory) tt (λ same. absurd cc) (λ same. absurd cc) (λ same. absurd cc)
      (λ same. absurd cc)
