use Rattle.std.proofs.Common.{sym, ◌∙◌}
use Rattle.lgm_save.proofs.NumberLaws.{front_not}
use Rattle.lgm_save.proofs.strip.strip.Goals as goal

pub returns-else-eq-clause-none : goal.returns-else-eq-clause-none
returns-else-eq-clause-none c none rest e =
    front_not c.args.bytes.now c.in_ok-start.start.now c.args.front.now c.in_ok-start.rest.now rest
    c.in_ok-start.ensures.some.0 c.in_ok-start.ensures.some.1 (sym c.eq.ensures ∙ c.if-eq.false) e
