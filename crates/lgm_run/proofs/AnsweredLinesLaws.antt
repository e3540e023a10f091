-- How answering the lines of a script ends.
use Rattle.std.proofs.Common.{◌≡◌, ℕ, ◌+◌, ◌<◌, ◌≤◌, List, [], Option, Result, Ok, Err, refl, sym, ap, ◌∙◌, length, arith}
use Rattle.std.specs.Prelude.{◌≢◌, IfSome, IfOk, IfErr}
use Rattle.lgm_wire.specs.declared.chain_hash.ChainHash.{ChainHash}
use Rattle.lgm_script.specs.declared.input.line_reader.TheConstants.{MAX_LINE}
use Rattle.lgm_script.specs.declared.output.SendFault.{SendFault}
use Rattle.lgm_script.specs.declared.output.SendFault.TheVariants as sending
use Rattle.lgm_script.specs.declared.input.read.LineFault.{LineFault}
use Rattle.lgm_script.specs.declared.input.read.LineFault.TheVariants as lines
use Rattle.lgm_script.specs.Device.{Input, IsAtEnd}
use Rattle.lgm_script.specs.Lines.{ahead, IsFirstLine, IsLongerThan}
use Rattle.lgm_script.specs.Output.{OutputState, Tells, TellsPart, TellsSome}
use Rattle.lgm_script.proofs.WrittenTextLaws.{some_of_all, some_of_part, tells_nothing}
use Rattle.lgm_answers.specs.declared.run_fault.TheConstants.{MAX_LINES}
use Rattle.lgm_answers.specs.declared.run_fault.RunFault.{RunFault}
use Rattle.lgm_answers.specs.declared.run_fault.RunFault.TheVariants as faults
use Rattle.lgm_run.specs.declared.script_run.Counts.{Counts}
use Rattle.lgm_answers.specs.Faults.{line_fault, send_fault}
use Rattle.lgm_run.specs.Running.{NeedsNoBoard, IsAnswered, IsTooMany, IsCutShort}
use Rattle.lgm_answers.specs.Script.{ScriptState}
use Rattle.lgm_run.specs.inner.Progress.{HasAnswered, HaveBegun}
use Rattle.lgm_answers.proofs.LineFaults.{failed, ends_at}
use Rattle.lgm_run.proofs.Progress.{told_on, ends, many, long, cut, cut_in}
use Rattle.lgm_run.proofs.Reached.{IsUpTo, so_far_on}

abbrev ended : RunFault → Result Counts RunFault
ended e = Err e

-- whatever the fault of a line, a prefix was written
line_some : {T : Type 0} (fault : LineFault) (mid new : OutputState)
    → (failed {T = T} fault ≢ failed lines.Write → Tells mid new [])
    → (failed {T = T} fault ≡ failed lines.Write → TellsPart mid new [] sending.Write) → TellsSome mid new []
line_some lines.Read mid new told part = some_of_all mid new [] (told (λ e. absurd cc))
line_some lines.Write mid new told part = some_of_part mid new [] sending.Write (part refl)
line_some lines.TooLong mid new told part = some_of_all mid new [] (told (λ e. absurd cc))

-- and it is the same sink
line_writer : {T : Type 0} (fault : LineFault) (mid new : OutputState)
    → (failed {T = T} fault ≢ failed lines.Write → Tells mid new [])
    → (failed {T = T} fault ≡ failed lines.Write → TellsPart mid new [] sending.Write) → new.writer ≡ mid.writer
line_writer lines.Read mid new told part = (told (λ e. absurd cc)).writer
line_writer lines.Write mid new told part = (part refl).writer
line_writer lines.TooLong mid new told part = (told (λ e. absurd cc)).writer

-- a fault of reading a line isn't one of a board
line_own : (fault : LineFault) → NeedsNoBoard (line_fault fault)
line_own lines.Read = tt
line_own lines.Write = tt
line_own lines.TooLong = tt

not_write : {T : Type 0} (fault : LineFault) → fault ≡ lines.TooLong
    → failed {T = T} fault ≢ failed lines.Write
not_write {T = T} fault is same = let here = sym (ap (failed {T = T}) is) ∙ same in cc

module _ {chain : ChainHash} {known : Option (List ℕ)} {source : Input} {output : OutputState} {k : ℕ}
    {state : ScriptState} {buffered : List ℕ} {mid : Input} {between : OutputState}
    (up_to : IsUpTo chain known source output k state buffered mid between) where
  -- a line couldn't be read
  pub line_failed : {T : Type 0} (buffered' : List ℕ) (source' : Input) (output' : OutputState) (fault : LineFault)
      → ahead buffered' source'.left ≡ ahead buffered mid.left
      → (failed {T = T} fault ≢ failed lines.Write → Tells between output' [])
      → (failed {T = T} fault ≡ failed lines.Write → TellsPart between output' [] sending.Write)
      → (failed {T = T} fault ≡ failed lines.Read → mid.failures < source'.failures)
      → (fault ≡ lines.TooLong → (k < MAX_LINES) × IsLongerThan MAX_LINE (ahead buffered' source'.left))
      → HasAnswered chain known source source' output output' (ended (line_fault fault))
  line_failed {T = T} buffered' source' output' fault kept told part read longer =
      let input = ahead buffered' source'.left in
      let so_far = so_far_on up_to buffered' source' kept in
      let end =
      ends_at Counts {U = T} fault up_to.read_same
      up_to.write_same (λ not. (told not).well) (λ is. (part is).cause refl) read in
      record {
        writer = line_writer fault between output' told part ∙ up_to.writer;
        ok = tt;
        too_many = λ same. absurd (end.not_many same);
        too_long = λ same. let is = end.too_long same in
            long chain known source.left k state input output output' (told_on chain known source.left k
            state input output between so_far output' (told (not_write fault is))) (longer is).0 (longer is).1;
        some =
            cut chain known source.left k state buffered' source'.left output between so_far output'
            up_to.within (line_some fault between output' told part);
        read = end.read;
        write = end.write;
        well = end.well;
        own = line_own fault;
      }

  -- it ended otherwise after what was read, and no device failed
  has_ended : (result : Result Counts RunFault)
      → IfOk result (λ counts. IfSome source.left (IsAnswered chain known (Tells output between) counts))
      → (result ≡ ended faults.TooManyLines
      → IfSome source.left (IsTooMany chain known (Tells output between)))
      → result ≢ ended faults.LineTooLong → result ≢ ended faults.Read → result ≢ ended faults.Write
      → IfErr result NeedsNoBoard → HasAnswered chain known source mid output between result
  has_ended result ok too_many too_long read write own = record {
    writer = up_to.writer;
    ok = ok;
    too_many = too_many;
    too_long = λ same. absurd (too_long same);
    some =
        cut chain known source.left k state buffered mid.left output between up_to.so_far between
        up_to.within (some_of_all between between [] (tells_nothing between));
    read = λ same. absurd (read same);
    write = λ same. absurd (write same);
    well = λ _. up_to.write_same;
    own = own;
  }

  -- all lines were answered
  pub all_answered : (number accepted : ℕ) → number ≡ k → accepted ≡ state.accepted
      → IsAtEnd (ahead buffered mid.left)
      → HasAnswered chain known source mid output between
      (Ok (record { lines = number; accepted = accepted }))
  all_answered number accepted number_is accepted_is end =
      has_ended (Ok (record { lines = number; accepted = accepted }))
      (rw (number_is, accepted_is) (ends chain known source.left k state (ahead buffered mid.left)
      output between up_to.so_far end up_to.within))
      (λ same. absurd cc) (λ same. absurd cc) (λ same. absurd cc) (λ same. absurd cc) tt

  -- there are more lines
  pub more_lines : k ≡ MAX_LINES → 0 < length buffered
      → HasAnswered chain known source mid output between (ended faults.TooManyLines)
  more_lines full more =
      has_ended (ended faults.TooManyLines) tt
      (λ _. many chain known source.left k state buffered mid.left output between up_to.so_far full more)
      (λ same. absurd cc) (λ same. absurd cc) (λ same. absurd cc) tt

  -- an answer couldn't be computed or written
  answered_some : (first most : ℕ) (output' : OutputState) (fault : SendFault)
      → IsFirstLine buffered mid.left first
      → k + most ≤ MAX_LINES
      → HaveBegun chain (k + 1) most state buffered first (λ text. TellsPart between output' text fault)
      → IfSome source.left (IsCutShort chain known (TellsSome output output') mid.left)
  answered_some first most output' fault line few begun =
      cut_in chain known source.left k state buffered mid.left output between up_to.so_far most first output' few line
      (record {
        asked = begun.asked;
        len = begun.len;
        next = begun.next;
        limit = begun.limit;
        text = some_of_part between output' _ fault begun.text;
      })

  pub answer_failed : (first most : ℕ) (output' : OutputState) (fault : SendFault)
      → IsFirstLine buffered mid.left first
      → k + most ≤ MAX_LINES
      → HaveBegun chain (k + 1) most state buffered first (λ text. TellsPart between output' text fault)
      → HasAnswered chain known source mid output output' (ended (send_fault fault))
  answer_failed first most output' sending.NoMemory line few begun = record {
    writer = let text = begun.text in text.writer ∙ up_to.writer;
    ok = tt;
    too_many = λ same. absurd cc;
    too_long = λ same. absurd cc;
    some = answered_some first most output' sending.NoMemory line few begun;
    read = λ same. absurd cc;
    write = λ same. absurd cc;
    well = λ _. let text = begun.text in text.well refl ∙ up_to.write_same;
    own = tt;
  }
  answer_failed first most output' sending.Write line few begun = record {
    writer = let text = begun.text in text.writer ∙ up_to.writer;
    ok = tt;
    too_many = λ same. absurd cc;
    too_long = λ same. absurd cc;
    some = answered_some first most output' sending.Write line few begun;
    read = λ same. absurd cc;
    write = λ _. let text = begun.text in omega (arith, text.cause refl, up_to.write_same);
    well = λ other. absurd (other refl);
    own = tt;
  }
