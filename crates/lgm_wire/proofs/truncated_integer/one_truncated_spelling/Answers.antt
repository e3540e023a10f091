use Rattle.lgm_wire.proofs.TruncatedIntegerLaws.{IsTruncatedInteger-truncated_bytes, same_bytes, short_bytes}
use Rattle.lgm_wire.proofs.truncated_integer.one_truncated_spelling.Goals as goal

pub returns-clause-spelled : goal.returns-clause-spelled
returns-clause-spelled c = IsTruncatedInteger-truncated_bytes

pub returns-clause-one : goal.returns-clause-one
returns-clause-one c = same_bytes

pub returns-clause-short : goal.returns-clause-short
returns-clause-short c = short_bytes
