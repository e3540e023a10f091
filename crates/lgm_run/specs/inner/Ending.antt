-- How a run ends.
use Rattle.std.specs.Prelude.{◌≡◌, ◌⊎◌, [], Result, Err}
use Rattle.lgm_script.specs.declared.output.SendFault.TheVariants as sending
use Rattle.lgm_script.specs.Output.{OutputState, Tells, TellsPart}
use Rattle.lgm_answers.specs.declared.run_fault.RunFault.{RunFault}
use Rattle.lgm_answers.specs.declared.run_fault.RunFault.TheVariants.{Write}
use Rattle.lgm_run.specs.declared.script_run.Counts.{Counts}

-- all that was buffered was written
pub record IsFlushed (old new : OutputState) (answered result : Result Counts RunFault) : Type 0 where
  pub same : result ≡ answered
  pub told : Tells old new []
  pub clear : new.buffered ≡ []

-- the sink failed while it was written
pub record FailsThen (old new : OutputState) (result : Result Counts RunFault) : Type 0 where
  pub write : result ≡ Err Write
  pub part : TellsPart old new [] sending.Write

-- the sink had failed before
pub record HasFailed (old new : OutputState) (answered result : Result Counts RunFault) : Type 0 where
  pub failed : answered ≡ Err Write
  pub same : result ≡ answered
  pub still : new ≡ old

-- how it ended: all was written, the sink failed then, or it had failed before
abbrev pub IsEnded : OutputState → OutputState → Result Counts RunFault → Result Counts RunFault → Type 0
IsEnded old new answered result =
    IsFlushed old new answered result ⊎ (FailsThen old new result ⊎ HasFailed old new answered result)
