use Rattle.std.proofs.Common.{◌∙◌}
use Rattle.lgm_gossip.specs.reading.MessageReading.{message_at}
use Rattle.lgm_c.proofs.Unwanted.{other_signs}
use Rattle.lgm_c.proofs.wanted.right_verdicts.Goals as goal

pub returns-in-Other : goal.returns-in-Other
returns-in-Other c = c.signed_by-in-Other.ensures ∙ other_signs c.args.map.now (message_at c.args.bytes.now) c.args.other c.in-Other.ensures
