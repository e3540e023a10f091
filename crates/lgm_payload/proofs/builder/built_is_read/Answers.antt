use Rattle.lgm_payload.proofs.OnionLaws.{built_spelled}
use Rattle.lgm_payload.proofs.builder.built_is_read.Goals as goal

pub returns : goal.returns
returns c = built_spelled
