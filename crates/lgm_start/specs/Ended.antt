-- How a script ends that is answered as options say.
use Rattle.std.specs.Prelude.{◌≡◌, ◌≢◌, ◌⊎◌, ℕ, List, [], ◌∷◌, ◌++◌, Ok, codes}
use Rattle.lgm_script.specs.Device.{Input, Written}
use Rattle.lgm_run.specs.Runs.{Runs}
use Rattle.lgm_live.specs.RunsLive.{RunsLive}
use Rattle.lgm_answers.specs.declared.run_fault.RunFault.{RunFault}
use Rattle.lgm_answers.specs.declared.run_fault.RunFault.TheVariants as faults
use Rattle.lgm_start.specs.declared.options.Options.{Options}
use Rattle.lgm_start.specs.declared.options.Mode.TheVariants as modes
use Rattle.lgm_start.specs.declared.options.Mode.{Mode}
use Rattle.lgm_start.specs.declared.answer.Ended.{Ended}
use Rattle.lgm_start.specs.declared.answer.Ended.TheVariants as ends

-- the script was answered by the command, over the chain, the known bits and as many workers as the options say
abbrev pub AnswersAs : Mode → Options → Input → Input → Written → Written → Ended → Type 0
AnswersAs modes.Run options reader reader' writer writer' (ends.Ran result) =
    Runs options.chain options.known reader reader' writer writer' result
AnswersAs modes.Live options reader reader' writer writer' (ends.RanLive result) =
    RunsLive options.chain options.known options.workers reader reader' writer writer' result
AnswersAs _ options reader reader' writer writer' ended = ⊥

-- the exit status
abbrev pub status_of : Ended → ℕ
status_of (ends.Ran (Ok counts)) = 0
status_of (ends.RanLive (Ok report)) = 0
status_of _ = 1

-- the script was answered as some options say, and the status is that of its end; or the words gave no options: then the
-- status isn't 0, and nothing was read or written
abbrev pub EndsWith : Input → Input → Written → Written → ℕ → Type 0
EndsWith reader reader' writer writer' status =
    ((options : Options) × (ended : Ended) × AnswersAs options.mode options reader reader' writer writer' ended
    × (status ≡ status_of ended))
    ⊎ ((status ≢ 0) × (reader' ≡ reader) × (writer' ≡ writer))

-- a text as a line
abbrev pub line : List ℕ → List ℕ
line text = text ++ 10 ∷ []

-- the line on standard error for each fault
abbrev pub line_of : RunFault → List ℕ
line_of faults.Read = line (codes "lgm: read failed")
line_of faults.Write = line (codes "lgm: write failed")
line_of faults.NoMemory = line (codes "lgm: out of memory")
line_of faults.TooManyLines = line (codes "lgm: too many lines")
line_of faults.LineTooLong = line (codes "lgm: line too long")
line_of faults.Closed = line (codes "lgm: board closed")
line_of faults.Versions = line (codes "lgm: versions disagree")
