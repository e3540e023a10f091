use Rattle.lgm_gossip.proofs.EncodeLaws.{reads_back}
use Rattle.lgm_gossip.proofs.encoder.encode.Goals as goal

pub returns-clause-spelled : goal.returns-clause-spelled
returns-clause-spelled c = c.bytes.ensures.spelled

pub returns-clause-read : goal.returns-clause-read
returns-clause-read c = reads_back c.args.message.now c.bytes.result c.bytes.ensures.spelled

pub returns-clause-text : goal.returns-clause-text
returns-clause-text c = c.bytes.ensures.text

pub returns-clause-too_long : goal.returns-clause-too_long
returns-clause-too_long c = c.bytes.ensures.too_long
