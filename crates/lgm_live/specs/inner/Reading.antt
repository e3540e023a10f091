-- A script that was completely read.
use Rattle.std.specs.Prelude.{◌≡◌, ◌≢◌, ℕ, ◌<◌, ◌≤◌, List, [], ◌∷◌, length, Option, Result, Err, IfSome, IfOk}
use Rattle.lgm_script.specs.Device.{Input}
use Rattle.lgm_script.specs.Output.{OutputState}
use Rattle.lgm_script.specs.declared.grammar.command.Command.{Command}
use Rattle.lgm_answers.specs.Limits.{most_lines}
use Rattle.lgm_answers.specs.Script.{commands_of}
use Rattle.lgm_answers.specs.declared.run_fault.RunFault.{RunFault}
use Rattle.lgm_answers.specs.declared.run_fault.RunFault.TheVariants as faults
use Rattle.lgm_live.specs.inner.Gathered.{Gathered, with_line, IsParsed}
use Rattle.lgm_live.specs.Running.{IsWithin, HasMoreLines, HasLongLine}

-- with the commands of lines
abbrev pub with_lines : Gathered → List Command → Gathered
with_lines so_far [] = so_far
with_lines so_far (request ∷ asked) = with_lines (with_line so_far request) asked

-- the script is within the limits, and these are its commands
pub record IsAsked (asked : List Command) (script : List ℕ) : Type 0 where
  pub limits : IsWithin script
  pub all : asked ≡ commands_of script

-- all commands of a script were added
pub record AreAdded (script : Option (List ℕ)) (old new : Gathered) : Type 0 where
  pub asked : List Command
  pub few : length asked ≤ most_lines
  pub added : new ≡ with_lines old asked
  pub whole : IfSome script (IsAsked asked)

-- the parsed script has all commands of a script, for this many workers
pub record IsRead (workers : ℕ) (script : Option (List ℕ)) (parsed : Gathered) : Type 0 where
  pub asked : List Command
  pub few : length asked ≤ most_lines
  pub is_parsed : IsParsed workers asked parsed
  pub whole : IfSome script (IsAsked asked)

-- how reading a script ends: with what was read of it, or it exceeds a limit, or a device failed. Nothing was written
pub record HasRead {T : Type 0} (source source' : Input) (output output' : OutputState) (whole : T → Type 0)
    (result : Result T RunFault) : Type 0 where
  pub writer : output'.writer ≡ output.writer
  pub ok : IfOk result whole
  pub too_many : result ≡ Err faults.TooManyLines → IfSome source.left HasMoreLines
  pub too_long : result ≡ Err faults.LineTooLong → IfSome source.left HasLongLine
  pub silent : output'.sink.taken ≡ output.sink.taken
  pub buffered : output'.buffered ≡ []
  pub read : result ≡ Err faults.Read → source.failures < source'.failures
  pub write : result ≡ Err faults.Write → output.sink.failures < output'.sink.failures
  pub well : result ≢ Err faults.Write → output'.sink.failures ≡ output.sink.failures
