use Rattle.std.proofs.Common.{refl}
use Rattle.lgm_save.proofs.reader.update_in.Goals as goal

pub returns-in_err-message-clause-none : goal.returns-in_err-message-clause-none
returns-in_err-message-clause-none c none message rest is e = c.in_err-message.ensures.none refl message rest is e
