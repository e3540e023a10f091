-- What is promised of a run, from its devices before and after and the way it ended.
use Rattle.std.specs.Prelude.{◌≡◌, ℕ, ◌<◌, List, Option, Result, Err, IfSome, IfOk, IfErr}
use Rattle.lgm_wire.specs.declared.chain_hash.ChainHash.{ChainHash}
use Rattle.lgm_script.specs.Device.{Input, Written, Appends, AppendsSome}
use Rattle.lgm_answers.specs.declared.run_fault.RunFault.{RunFault}
use Rattle.lgm_answers.specs.declared.run_fault.RunFault.TheVariants as faults
use Rattle.lgm_run.specs.declared.script_run.Counts.{Counts}
use Rattle.lgm_run.specs.Running.{NeedsNoBoard, IsAnswered, IsTooMany, IsTooLong, IsCutShort}

pub record Runs (chain : ChainHash) (known : Option (List ℕ)) (reader reader' : Input) (writer writer' : Written)
    (result : Result Counts RunFault) : Type 0 where
  -- each line was answered, and nothing else was written
  pub ok : IfOk result (λ counts.
      IfSome reader.left (IsAnswered chain known (Appends writer.taken writer'.taken) counts))
  -- the lines before were answered
  pub too_many : result ≡ Err faults.TooManyLines
      → IfSome reader.left (IsTooMany chain known (Appends writer.taken writer'.taken))
  pub too_long : result ≡ Err faults.LineTooLong
      → IfSome reader.left (IsTooLong chain known (Appends writer.taken writer'.taken))
  -- at any fault a prefix of the text of lines that were read, all within the limits, was written, and nothing else
  pub fault : IfErr result (λ _.
      IfSome reader.left (IsCutShort chain known (AppendsSome writer.taken writer'.taken) reader'.left))
  -- a device failed in this call
  pub read : result ≡ Err faults.Read → reader.failures < reader'.failures
  pub write : result ≡ Err faults.Write → writer.failures < writer'.failures
  -- no board was asked
  pub own : IfErr result NeedsNoBoard
