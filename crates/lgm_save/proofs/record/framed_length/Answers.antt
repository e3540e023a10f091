use Rattle.std.proofs.Common.{arith}
use Rattle.lgm_save.proofs.RecordLaws.{length-framed}
use Rattle.lgm_save.proofs.record.framed_length.Goals as goal

pub returns : goal.returns
returns c = grind (arith, length-framed)
