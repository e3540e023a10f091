-- What is promised of a run beside workers, from its devices before and after and the way it ended.
use Rattle.std.specs.Prelude.{◌≡◌, ◌⊎◌, ℕ, ◌<◌, List, Option, Result, Err, IfSome, IfOk, IfErr, OnErr}
use Rattle.lgm_wire.specs.declared.chain_hash.ChainHash.{ChainHash}
use Rattle.lgm_script.specs.Device.{Input, Written, Appends, AppendsSome}
use Rattle.lgm_live.specs.declared.report.LiveReport.{LiveReport}
use Rattle.lgm_answers.specs.declared.run_fault.RunFault.{RunFault}
use Rattle.lgm_answers.specs.declared.run_fault.RunFault.TheVariants as faults
use Rattle.lgm_live.specs.Running.{IsToldWhole, IsToldInPart, HasMoreLines, HasLongLine, ComesFirst}

pub record RunsLive (chain : ChainHash) (known : Option (List ℕ)) (workers : ℕ) (reader reader' : Input)
    (writer writer' : Written) (result : Result LiveReport RunFault) : Type 0 where
  -- the report is one as `live` promises for the whole script, and exactly its text was written
  pub ok : IfOk result (λ report.
      IfSome reader.left (IsToldWhole chain known workers (Appends writer.taken writer'.taken) report))
  -- the script exceeds a limit
  pub too_many : result ≡ Err faults.TooManyLines → IfSome reader.left HasMoreLines
  pub too_long : result ≡ Err faults.LineTooLong → IfSome reader.left HasLongLine
  -- nothing is written before everything is answered
  pub silent : IfErr result (λ fault. ComesFirst fault → writer'.taken ≡ writer.taken)
  -- at any fault nothing was written, or a prefix of the text of the whole script and a report on it
  pub fault : OnErr result ((writer'.taken ≡ writer.taken)
      ⊎ IfSome reader.left (IsToldInPart chain known workers (AppendsSome writer.taken writer'.taken)))
  -- a device failed in this call
  pub read : result ≡ Err faults.Read → reader.failures < reader'.failures
  pub write : result ≡ Err faults.Write → writer.failures < writer'.failures
