use Rattle.std.proofs.Common.{◌∙◌}
use Rattle.lgm_payer_state.proofs.states.written_is_read.Goals as goal

pub returns : goal.returns
returns c = c.read.ensures.back c.args.payer.now c.in_ok-bytes.ensures.kept (c.as_slice.ensures ∙ c.in_ok-bytes.ensures.written)
