use Rattle.std.proofs.Common.{refl}
use Rattle.lgm_save.proofs.RecordLaws.{channel_not}
use Rattle.lgm_save.proofs.reader.channel_in.Goals as goal

pub returns-in_err-message-clause-none : goal.returns-in_err-message-clause-none
returns-in_err-message-clause-none c none =
    channel_not c.args.bytes.now c.in_ok-sat.behind.now c.in_ok-sat.sat c.in_ok-sat.ensures.some (c.in_err-message.ensures.none refl)
