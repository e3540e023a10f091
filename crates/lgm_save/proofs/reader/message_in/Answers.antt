use Rattle.std.proofs.Common.{◌≡◌, true, false, sym, ◌∙◌}
use Rattle.lgm_save.proofs.RecordLaws.{message_not}
use Rattle.lgm_save.proofs.reader.message_in.Goals as goal

pub returns-else-is_kind-clause-none : goal.returns-else-is_kind-clause-none
returns-else-is_kind-clause-none c none message rest is e =
    message_not c.args.bytes.now c.in_ok-message.message.now c.in_ok-message.rest.now c.args.layout message rest
    c.in_ok-message.ensures.some.0 c.in_ok-message.ensures.some.1
    (λ found. let bad : true ≡ false = sym (c.is_kind.ensures.1 found) ∙ c.if-is_kind.false in absurd cc) is e
