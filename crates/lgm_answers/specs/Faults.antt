-- Why a script isn't answered to its end, from what its lines met.
use Rattle.lgm_script.specs.declared.output.SendFault.{SendFault}
use Rattle.lgm_script.specs.declared.output.SendFault.TheVariants as sending
use Rattle.lgm_script.specs.declared.input.read.LineFault.{LineFault}
use Rattle.lgm_script.specs.declared.input.read.LineFault.TheVariants as lines
use Rattle.lgm_answers.specs.declared.run_fault.RunFault.{RunFault}
use Rattle.lgm_answers.specs.declared.run_fault.RunFault.TheVariants as faults

-- a line couldn't be read
abbrev pub line_fault : LineFault → RunFault
line_fault lines.Read = faults.Read
line_fault lines.Write = faults.Write
line_fault lines.TooLong = faults.LineTooLong

-- an answer couldn't be given or written
abbrev pub send_fault : SendFault → RunFault
send_fault sending.Write = faults.Write
send_fault sending.NoMemory = faults.NoMemory
