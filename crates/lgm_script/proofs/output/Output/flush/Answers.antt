use Rattle.lgm_script.proofs.WrittenTextLaws.{tells_some}
use Rattle.lgm_script.proofs.output.Output.flush.Goals as goal

pub returns-in-Err-clause-written : goal.returns-in-Err-clause-written
returns-in-Err-clause-written g c = tells_some _ _ _ _ _ _ c.as_slice.ensures.value c.in-Err.ensures.err c.clear.ensures.items c.in-Err.ensures.cause
