-- How a group of lines advances a script.
use Rattle.std.specs.Prelude.{◌≡◌, ◌≢◌, ℕ, ◌<◌, ◌≤◌, List, length, Option, Result, Err, IfOk, IfErr, IfSome}
use Rattle.lgm_wire.specs.declared.chain_hash.ChainHash.{ChainHash}
use Rattle.lgm_script.specs.declared.grammar.command.Command.{Command}
use Rattle.lgm_script.specs.Groups.{AskNext}
use Rattle.lgm_script.specs.Device.{Input}
use Rattle.lgm_script.specs.Output.{OutputState, Tells, TellsSome}
use Rattle.lgm_answers.specs.declared.run_fault.RunFault.{RunFault}
use Rattle.lgm_answers.specs.declared.run_fault.RunFault.TheVariants as faults
use Rattle.lgm_run.specs.declared.script_run.Counts.{Counts}
use Rattle.lgm_run.specs.Running.{NeedsNoBoard, IsAnswered, IsTooMany, IsTooLong, IsCutShort}
use Rattle.lgm_answers.specs.Script.{ScriptState}
use Rattle.lgm_run.specs.inner.Steps.{state_from, text_from}

-- this many next lines were answered, which have this many bytes
pub record HaveAnswers (chain : ChainHash) (number : ℕ) (state state' : ScriptState) (buffered : List ℕ) (first : ℕ)
    (told : List ℕ → Type 0) (count len : ℕ) : Type 0 where
  pub asked : List Command
  pub next : AskNext buffered first len asked
  pub count_is : count ≡ length asked
  pub state_is : state' ≡ state_from chain state asked
  pub text : told (text_from chain number state asked)

-- a prefix of the text of next lines was written, at most this many
pub record HaveBegun (chain : ChainHash) (number most : ℕ) (state : ScriptState) (buffered : List ℕ) (first : ℕ)
    (told_part : List ℕ → Type 0) : Type 0 where
  pub asked : List Command
  pub len : ℕ
  pub next : AskNext buffered first len asked
  pub limit : length asked ≤ most
  pub text : told_part (text_from chain number state asked)

-- how answering the lines of a script ends: all are answered, or it exceeds a limit, or a device failed. Some of the
-- text may still be buffered
pub record HasAnswered (chain : ChainHash) (known : Option (List ℕ)) (source source' : Input)
    (output output' : OutputState) (result : Result Counts RunFault) : Type 0 where
  pub writer : output'.writer ≡ output.writer
  pub ok : IfOk result (λ counts. IfSome source.left (IsAnswered chain known (Tells output output') counts))
  pub too_many : result ≡ Err faults.TooManyLines
      → IfSome source.left (IsTooMany chain known (Tells output output'))
  pub too_long : result ≡ Err faults.LineTooLong
      → IfSome source.left (IsTooLong chain known (Tells output output'))
  pub some : IfSome source.left (IsCutShort chain known (TellsSome output output') source'.left)
  pub read : result ≡ Err faults.Read → source.failures < source'.failures
  pub write : result ≡ Err faults.Write → output.sink.failures < output'.sink.failures
  pub well : result ≢ Err faults.Write → output'.sink.failures ≡ output.sink.failures
  pub own : IfErr result NeedsNoBoard
